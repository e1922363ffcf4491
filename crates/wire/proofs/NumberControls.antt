-- Numbers: closed cases.
-- Assumes nothing.
use Rattle.std.specs.Prelude.{◌≡◌, refl, List, [], ◌∷◌, map, ℕ}
use Rattle.basis.proofs.Kit.{w64}
use lib.IntN.{ℤ, pos, negsuc}
use mir.Val.{of_z}
use Rattle.wire.specs.Numbers.{zig, zigzag_of, unzigzag_of, low32_of, widen32_of}

-- Encoding, "Signed Integers": 0, -1, 1, -2, 0x7fffffff and -0x80000000
abbrev originals : List ℤ
originals = pos 0 ∷ negsuc 0 ∷ pos 1 ∷ negsuc 1 ∷ pos 0x7FFFFFFF ∷ negsuc 0x7FFFFFFF ∷ []

abbrev encoded : List ℕ
encoded = 0 ∷ 1 ∷ 2 ∷ 3 ∷ 4294967294 ∷ 4294967295 ∷ []

table : map zig originals ≡ encoded
table = refl

table-bits : map (λ z. zigzag_of (of_z w64 z)) originals ≡ encoded
unfolding zigzag_of
table-bits = refl

table-back : map unzigzag_of encoded ≡ map (of_z w64) originals
unfolding unzigzag_of
table-back = refl

-- at the limits
zigzag-ends : map zigzag_of (0x7FFFFFFFFFFFFFFF ∷ 0x8000000000000000 ∷ []) ≡ 0xFFFFFFFFFFFFFFFE ∷ 0xFFFFFFFFFFFFFFFF ∷ []
unfolding zigzag_of
zigzag-ends = refl

low32-ends : map low32_of (0xFFFFFFFF ∷ 0x100000000 ∷ 0xFFFFFFFFFFFFFFFF ∷ []) ≡ 0xFFFFFFFF ∷ 0 ∷ 0xFFFFFFFF ∷ []
unfolding low32_of
low32-ends = refl

widen32-ends : map widen32_of (0x7FFFFFFF ∷ 0x80000000 ∷ 0xFFFFFFFF ∷ []) ≡ 0x7FFFFFFF ∷ 0xFFFFFFFF80000000 ∷ 0xFFFFFFFFFFFFFFFF ∷ []
unfolding widen32_of
widen32-ends = refl
