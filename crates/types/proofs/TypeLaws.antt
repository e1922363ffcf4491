-- A table of all types whose entries all pass the test of `wire_of` gives each type its wire type; a number above them is none of those
-- that `wire_of` lists.
-- Assumes nothing.
use Rattle.std.specs.Prelude.{◌≡◌, refl, Bool, true, false, ◌&&◌, List, [], ◌∷◌, ℕ, suc, ◌≤◌, ◌<◌, leb, length, get_or}
use Rattle.basis.proofs.Kit.{arith, ne_eqb}
use lib.Dec.{T, leb→le}
use mir.Facts.{and_yes}
use Rattle.limits.specs.Figures.{most_type}
use Rattle.types.specs.Types.{VARINT, is_any, wire_of}
use Rattle.types.specs.Types.{TYPE_DOUBLE, TYPE_FLOAT, TYPE_FIXED64, TYPE_FIXED32, TYPE_SFIXED32, TYPE_SFIXED64}
use Rattle.types.specs.Types.{TYPE_STRING, TYPE_GROUP, TYPE_MESSAGE, TYPE_BYTES}
use Rattle.basis.proofs.Table.{tabled, table_at}

pub wire-at : (xs : List ℕ) → T (tabled wire_of 0 xs) → length xs ≡ suc most_type → (k : ℕ) → k ≤ most_type → get_or xs k 0 ≡ wire_of k
wire-at xs t l k h = table_at wire_of xs t k (omega arith)

-- ---- above the last type
abbrev up_to_last : List ℕ → Bool
up_to_last [] = true
up_to_last (t ∷ ts) = leb t most_type && up_to_last ts

abbrev eights : List ℕ
eights = TYPE_FIXED64 ∷ TYPE_SFIXED64 ∷ TYPE_DOUBLE ∷ []

abbrev lengths : List ℕ
lengths = TYPE_STRING ∷ TYPE_BYTES ∷ TYPE_MESSAGE ∷ []

abbrev groups : List ℕ
groups = TYPE_GROUP ∷ []

abbrev fours : List ℕ
fours = TYPE_FIXED32 ∷ TYPE_SFIXED32 ∷ TYPE_FLOAT ∷ []

module _ (k : ℕ) (h : most_type < k) where
  any-beyond : (ts : List ℕ) → T (up_to_last ts) → is_any k ts ≡ false
  any-beyond [] g = refl
  any-beyond (t ∷ ts) g =
      let tests : T (leb t most_type) × T (up_to_last ts) = and_yes (leb t most_type) (up_to_last ts) g in
      rw (ne_eqb k t (λ e. omega (arith, leb→le t most_type tests.0))) (any-beyond ts tests.1)

  pub wire-beyond : VARINT ≡ wire_of k
  unfolding wire_of
  wire-beyond = rw (wire_of, any-beyond eights tt, any-beyond lengths tt, any-beyond groups tt, any-beyond fours tt)

pub ruleset wire_laws = (wire-at, wire-beyond)
