-- Closed cases of the definitions, which the checker computes: of each rule one that holds, one at the limit, one refused just past it.
-- Assumes nothing.
use Rattle.std.specs.Prelude.{◌≡◌, refl, List, [], ◌∷◌, map, ℕ}
use lib.IntN.{ℤ, pos, negsuc}
use lib.ListN.{replicate}
use Rattle.reply.specs.declared.Refusal.TheVariants.{BadRequest, BeyondLimit, RangeEnd}
use Rattle.reply.specs.Outcome.{refuse, give}
use Rattle.ranges.specs.Ranges.{end_of, pairs, lower_ranges}

-- 01, example 10: extension 100 to 199; the last end; the end before it; a start above its end; an end of -1; no words
ranges :
    map (λ (ws : List ℤ). lower_ranges 0 ws)
    ((pos 100 ∷ pos 199 ∷ [])
    ∷ (pos 1 ∷ pos 2147483647 ∷ [])
    ∷ (pos 1 ∷ pos 2147483646 ∷ [])
    ∷ (pos 9 ∷ pos 3 ∷ [])
    ∷ (negsuc 4 ∷ negsuc 0 ∷ [])
    ∷ []
    ∷ [])
    ≡ give (pos 100 ∷ pos 200 ∷ [])
    ∷ refuse RangeEnd
    ∷ give (pos 1 ∷ pos 2147483647 ∷ [])
    ∷ give (pos 9 ∷ pos 4 ∷ [])
    ∷ give (negsuc 4 ∷ pos 0 ∷ [])
    ∷ give []
    ∷ []
unfolding lower_ranges pairs end_of
ranges = refl

-- kinds 1, 2 and 3; an odd count comes before a last end
kinds :
    map (λ (k : ℕ). lower_ranges k (pos 1 ∷ pos 2147483647 ∷ [])) (1 ∷ 2 ∷ 3 ∷ [])
    ≡ refuse RangeEnd ∷ give (pos 1 ∷ pos 2147483647 ∷ []) ∷ refuse BadRequest ∷ []
unfolding lower_ranges pairs end_of
kinds = refl

odd : lower_ranges 0 (pos 1 ∷ pos 2147483647 ∷ pos 5 ∷ []) ≡ refuse BadRequest
unfolding lower_ranges pairs end_of
odd = refl

-- 4,096 words are taken and 4,097 are not; too many words come before an odd count
at-most-ranges : lower_ranges 2 (replicate 4096 (pos 1)) ≡ give (replicate 4096 (pos 1))
unfolding lower_ranges pairs end_of
at-most-ranges = refl

-- an odd count too many, and another kind before both
too-many-ranges : map (λ (k : ℕ). lower_ranges k (replicate 4097 (pos 1))) (0 ∷ 3 ∷ []) ≡ refuse BeyondLimit ∷ refuse BadRequest ∷ []
unfolding lower_ranges
too-many-ranges = refl
