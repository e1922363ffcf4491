-- Closed cases of the declaration of a number, which the checker computes.
-- Assumes nothing.
use Rattle.std.specs.Prelude.{◌≡◌, refl, [], ◌∷◌, map}
use Rattle.scope.proofs.Sample.{sheet, file, name_m, name_n, in_m, in_n, declares}
use Rattle.numbers.specs.Number.{declaration_of}

-- ---- numbers of M: a field's, two extensions' of which the first in the bytes counts, a field's before an extension's, one of N alone
numbers : map (λ k. declares (in_m λ c. declaration_of sheet c name_m k)) (6 ∷ 7 ∷ 5 ∷ 9 ∷ [])
    ≡ (70 ∷ 6 ∷ []) ∷ (20 ∷ 7 ∷ []) ∷ (48 ∷ 5 ∷ []) ∷ [] ∷ []
unfolding file declaration_of
numbers = refl

-- and of N: an extension's, and none
numbers-inside : map (λ k. declares (in_n λ c. declaration_of sheet c name_n k)) (9 ∷ 5 ∷ []) ≡ (225 ∷ 9 ∷ []) ∷ [] ∷ []
unfolding file declaration_of
numbers-inside = refl
