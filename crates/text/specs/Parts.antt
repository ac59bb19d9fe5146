-- Values made of parts that may be missing.
--     f ⊛ o           f of what o holds; nothing where one of them is missing
--     o and_then f    what f gives of what o holds; nothing where o holds nothing
use Rattle.std.specs.Prelude.{Some, None, Option}

infixl 4 ◌⊛◌
abbrev pub ◌⊛◌ : {A B : Type 0} → Option (A → B) → Option A → Option B
◌⊛◌ None o = None
◌⊛◌ (Some f) None = None
◌⊛◌ (Some f) (Some x) = Some (f x)

infixl 3 ◌and_then◌
abbrev pub ◌and_then◌ : {A B : Type 0} → Option A → (A → Option B) → Option B
◌and_then◌ None f = None
◌and_then◌ (Some x) f = f x
