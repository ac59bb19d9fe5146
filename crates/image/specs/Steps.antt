-- What the functions inside reading and writing tell each other; none of this stands in the contract of a public call.
--     reading_of r               what laying the records of an image came to
--     Octets bs                  each byte is below 256
--     of_links n                 the contents entry of so many links
--     of_turns n links           the contents entry of so many turn entries, behind so many links
--     entry_bytes e              the eight bytes of a contents entry
--     EntryIn bs e rest          e is the contents entry at the front of the bytes, and the rest follows it
use Rattle.std.specs.Prelude.{◌≡◌, ℕ, ◌+◌, ◌*◌, ◌<◌, ◌≤◌, List, ◌∷◌, ◌++◌, length, drop, Ok, Err, Result, slice_index}
use Rattle.network.specs.declared.draft.Draft.{Draft}
use Rattle.network.specs.Laid.{drafted}
use Rattle.image.specs.declared.fault.ReadFault.{ReadFault}
use Rattle.image.specs.declared.fault.ReadFault.TheVariants.{ContentsWrong, RecordNotLaid}
use Rattle.image.specs.declared.entry.ContentsEntry.{ContentsEntry}
use Rattle.image.specs.Image.{two, four, two_at, four_at, Reading, holds, contents_wrong, not_laid}

abbrev pub reading_of : Result Draft ReadFault → Reading
reading_of (Ok draft) = holds (drafted draft)
reading_of (Err ContentsWrong) = contents_wrong
reading_of (Err (RecordNotLaid number)) = not_laid number

abbrev pub Octets : List ℕ → Type 0
Octets bs = (k : ℕ) → k < length bs → slice_index bs k < 256

abbrev pub of_links : ℕ → ContentsEntry
of_links n = record { kind = 0x4C; zero = 0; count = n; place = 16 }

abbrev pub of_turns : (n links : ℕ) → ContentsEntry
of_turns n links = record { kind = 0x54; zero = 0; count = n; place = 16 + 9 * links }

abbrev pub entry_bytes : ContentsEntry → List ℕ
entry_bytes e = e.kind ∷ e.zero ∷ two e.count ++ four e.place

abbrev pub EntryIn : List ℕ → ContentsEntry → List ℕ → Type 0
EntryIn bs entry rest =
    (8 ≤ length bs) × (entry.kind ≡ slice_index bs 0) × (entry.zero ≡ slice_index bs 1) × (entry.count ≡ two_at bs 2)
    × (entry.place ≡ four_at bs 4) × (rest ≡ drop 8 bs) × Octets bs
