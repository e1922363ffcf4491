-- Closed cases of the definitions, which the checker computes: whole fields, an empty one and one in the middle; headers and payloads cut;
-- leaves by tag and by length; lists of fields that end and that are cut.
-- Assumes nothing.
use Rattle.std.specs.Prelude.{◌≡◌, refl, Bool, List, [], ◌∷◌, map, ℕ, None, Some, Option}
use Rattle.octets.specs.Octets.{big_at}
use Rattle.field.specs.Field.{field_at, field}
use Rattle.field.specs.Leaf.{any_bytes, of_size, leaf_at, span}
use Rattle.field.specs.Walk.{done, cut, step, walk_by, walk}
use Rattle.field.specs.declared.Span.{Span}

-- 10 00 00, an empty package
empty : field_at (0x10 ∷ 0 ∷ 0 ∷ []) 0 3 ≡ Some (field 0x10 3 3)
unfolding field_at big_at
empty = refl

-- a field in the middle, whole up to its end and cut before it
middle : field_at (9 ∷ 0x11 ∷ 0 ∷ 2 ∷ 97 ∷ 98 ∷ 7 ∷ []) 1 6 ≡ Some (field 0x11 4 6)
unfolding field_at big_at
middle = refl

cut-payload : field_at (9 ∷ 0x11 ∷ 0 ∷ 2 ∷ 97 ∷ 98 ∷ 7 ∷ []) 1 5 ≡ None
unfolding field_at big_at
cut-payload = refl

cut-header : field_at (0x11 ∷ 0 ∷ []) 0 2 ≡ None
unfolding field_at
cut-header = refl

-- the higher byte of the length comes first
long : field_at (0x11 ∷ 1 ∷ 0 ∷ []) 0 3 ≡ None
unfolding field_at big_at
long = refl

-- ---- a leaf: of tag 5 at byte 1, with two bytes; then the end
due : ℕ → (List ℕ → Bool) → ℕ → Option Span
due tag good at = leaf_at tag good (9 ∷ 5 ∷ 0 ∷ 2 ∷ 7 ∷ 8 ∷ []) at 6

due-taken : due 5 any_bytes 1 ≡ Some (span 4 6)
unfolding due leaf_at field_at big_at
due-taken = refl

due-other : map (λ tag. due tag any_bytes 1) (4 ∷ 6 ∷ 0 ∷ []) ≡ None ∷ None ∷ None ∷ []
unfolding due leaf_at field_at big_at
due-other = refl

due-size : map (λ n. due 5 (of_size n) 1) (1 ∷ 2 ∷ 3 ∷ []) ≡ None ∷ Some (span 4 6) ∷ None ∷ []
unfolding due leaf_at field_at big_at
due-size = refl

-- a length that runs past the end, a header that is cut, nothing at all
due-cut : due 9 any_bytes 0 ∷ due 7 any_bytes 4 ∷ due 0 any_bytes 6 ∷ [] ≡ None ∷ None ∷ None ∷ []
unfolding due leaf_at field_at big_at
due-cut = refl

-- ---- two fields, 1 with no payload and 2 with one byte, and a third that is cut
fields : List ℕ
fields = 1 ∷ 0 ∷ 0 ∷ 2 ∷ 0 ∷ 1 ∷ 7 ∷ 3 ∷ 0 ∷ []

walk-whole : walk fields 0 7 ≡ step 1 3 3 (step 2 6 7 done)
unfolding fields walk_by field_at big_at
walk-whole = refl

walk-ends-cut : walk fields 0 9 ≡ step 1 3 3 (step 2 6 7 cut)
unfolding fields walk_by field_at big_at
walk-ends-cut = refl

walk-nothing : walk fields 7 7 ≡ done
unfolding fields walk_by
walk-nothing = refl
