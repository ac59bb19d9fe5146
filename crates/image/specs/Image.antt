-- The image of a plan: a table of contents, and then a record of nine bytes for each link and each turn entry, in their order.
-- Numbers have the most significant byte first.
--     two n, four n             the bytes of a number
--     record_bytes r            the nine bytes of a record
--     records plan              the records of a plan: those of its links, and then those of its entries
--     contents links turns      the table of contents for so many links and entries
--     encode plan               the image of a plan
--     contents_right bytes      the length and the table of contents are right
--     records_in i links n bs   the next n records that the bytes hold, from record i on, counted from 0; the first are links
--     lay_all n plan rs         the plan with the records laid, n having been laid before, or the first that was refused
--     decode bytes              the plan that an image holds, or why it is refused
use Rattle.std.specs.Prelude.{ℕ, zero, suc, ◌+◌, ◌*◌, ◌/◌, ◌%◌, Bool, cond, ◌&&◌, List, [], ◌∷◌, ◌++◌, map, length, drop, Some, None, Option, ◌==◌, nat_lt, slice_index}
use Rattle.std.specs.List.{flat_map}
use Rattle.network.specs.declared.link.Link.{Link}
use Rattle.network.specs.declared.turn.Turn.{Turn}
use Rattle.network.specs.declared.record.Record.{Record}
use Rattle.network.specs.declared.record.Record.TheVariants as records-of
use Rattle.network.specs.Letters.{letter_of}
use Rattle.network.specs.Plan.{Plan, empty}
use Rattle.network.specs.Laying.{record_refusal, with_record}

abbrev pub two : ℕ → List ℕ
two n = (n / 256 % 256) ∷ (n % 256) ∷ []

abbrev pub four : ℕ → List ℕ
four n = (n / 16777216 % 256) ∷ (n / 65536 % 256) ∷ (n / 256 % 256) ∷ (n % 256) ∷ []

abbrev pub record_bytes : Record → List ℕ
record_bytes (records-of.Link start end metres tightness) = two start ++ (two end ++ (four metres ++ (tightness ∷ [])))
record_bytes (records-of.Turn into out letter extra) = two into ++ (two out ++ (letter ∷ four extra))

abbrev pub link_record : Link → Record
link_record l = records-of.Link l.start l.end l.length l.tightness

abbrev pub turn_record : Turn → Record
turn_record t = records-of.Turn t.into t.out (letter_of t.class) t.extra

abbrev pub records : Plan → List Record
records plan = map link_record plan.links ++ map turn_record plan.turns

-- kind, zero, count and place
abbrev pub contents_entry : (kind count place : ℕ) → List ℕ
contents_entry kind count place = kind ∷ 0 ∷ two count ++ four place

abbrev pub contents : (links turns : ℕ) → List ℕ
contents links turns = contents_entry 0x4C links 16 ++ contents_entry 0x54 turns (16 + 9 * links)

unfoldable pub encode : Plan → List ℕ
encode plan = contents (length plan.links) (length plan.turns) ++ flat_map record_bytes (records plan)

-- the number that two, and that four, bytes from place i on stand for
abbrev pub two_at : List ℕ → ℕ → ℕ
two_at bs i = slice_index bs i * 256 + slice_index bs (i + 1)

abbrev pub four_at : List ℕ → ℕ → ℕ
four_at bs i = slice_index bs i * 16777216 + slice_index bs (i + 1) * 65536 + slice_index bs (i + 2) * 256 + slice_index bs (i + 3)

abbrev pub link_in : List ℕ → Record
link_in bs = records-of.Link (two_at bs 0) (two_at bs 2) (four_at bs 4) (slice_index bs 8)

abbrev pub turn_in : List ℕ → Record
turn_in bs = records-of.Turn (two_at bs 0) (two_at bs 2) (slice_index bs 4) (four_at bs 5)

-- the entry at the front of the bytes has the kind, zero and the place
abbrev pub entry_right : (kind place : ℕ) → List ℕ → Bool
entry_right kind place bs = slice_index bs 0 == kind && (slice_index bs 1 == 0 && four_at bs 4 == place)

abbrev pub links_told : List ℕ → ℕ
links_told bytes = two_at bytes 2

abbrev pub turns_told : List ℕ → ℕ
turns_told bytes = two_at (drop 8 bytes) 2

abbrev pub contents_right : List ℕ → Bool
contents_right bytes =
    (length bytes == 16 + 9 * (links_told bytes + turns_told bytes))
    && (entry_right 0x4C 16 bytes && entry_right 0x54 (16 + 9 * links_told bytes) (drop 8 bytes))

abbrev pub record_in : (i links : ℕ) → List ℕ → Record
record_in i links bs = cond (nat_lt i links) (link_in bs) (turn_in bs)

unfoldable pub records_in : (i links n : ℕ) → List ℕ → List Record
records_in i links zero bs = []
records_in i links (suc n) bs = record_in i links bs ∷ records_in (i + 1) links n (drop 9 bs)

pub data Reading : Type 0 where
  holds : Plan → Reading
  contents_wrong : Reading
  not_laid : (number : ℕ) → Reading

abbrev pub laid_or : Option ℕ → (laid refused : Reading) → Reading
laid_or None laid refused = laid
laid_or (Some number) laid refused = refused

unfoldable pub lay_all : ℕ → Plan → List Record → Reading
lay_all n plan [] = holds plan
lay_all n plan (r ∷ rs) = laid_or (record_refusal plan r) (lay_all (n + 1) (with_record plan r) rs) (not_laid (n + 1))

unfoldable pub decode : List ℕ → Reading
decode bytes =
    cond (contents_right bytes)
    (lay_all 0 empty (records_in 0 (links_told bytes) (links_told bytes + turns_told bytes) (drop 16 bytes)))
    contents_wrong
