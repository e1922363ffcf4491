-- Lowering of ranges, from 01's "Listing and lowering". Words are signed 32-bit numbers, a start and an end in turn.
--
--       enum_reserved ==  the kind that keeps its ends
--            last_end ==  the end that has no successor among the words
--           is_last e <=> e is that end
--          end_of k e ==  what an end becomes in a range of the kind k, or that it has no successor
--   with_end s x rest ==  a range of the start s and the end x, in front of the rest
--         pairs k ws ==  the lowered ranges of the kind k, or a refusal
--   lower_ranges k ws ==  what lowering ranges comes to
--
-- Assumes nothing.
use Rattle.std.specs.Prelude.{Bool, true, false, List, [], ◌∷◌, ℕ, ◌%◌, eqb, ltb, length, ℤ, pos, negsuc, ◌+ℤ◌, None, Some, Option}
use Rattle.limits.specs.Figures.{most_words}
use Rattle.reply.specs.declared.Refusal.TheVariants.{BadRequest, BeyondLimit, RangeEnd}
use Rattle.reply.specs.Outcome.{Outcome, refuse, give, push}

-- "a kind (0 extension, 1 message-reserved, 2 enum-reserved)" [LOWER-2]
abbrev pub enum_reserved : ℕ
enum_reserved = 2

abbrev pub last_end : ℕ
last_end = 2147483647

abbrev pub is_last : ℤ → Bool
is_last (pos n) = eqb n last_end
is_last (negsuc n) = false

-- "kinds 0 and 1 give end + 1, kind 2 keeps end"; 01, example 10: "end 2147483647: 16, but kept for an enum" [LOWER-3, LOWER-4]
unfoldable pub end_of : ℕ → ℤ → Option ℤ
end_of k e = elim (eqb k enum_reserved) [ true ↦ Some e | false ↦ elim (is_last e) [ true ↦ None | false ↦ Some (e +ℤ pos 1) ] ]

abbrev pub with_end : ℤ → Option ℤ → Outcome ℤ → Outcome ℤ
with_end s (Some e) rest = push (s ∷ e ∷ []) rest
with_end s None rest = refuse RangeEnd

-- a range whose start is above its end is kept; a start with no end is no range
unfoldable pub pairs : ℕ → List ℤ → Outcome ℤ
pairs k [] = give []
pairs k (s ∷ []) = refuse BadRequest
pairs k (s ∷ e ∷ ws) = with_end s (end_of k e) (pairs k ws)

-- "at most 4,096 words a list (else 3)"; "Another kind or an odd count is 2, before any 16" [LOWER-1, LOWER-5]
unfoldable pub lower_ranges : ℕ → List ℤ → Outcome ℤ
lower_ranges k ws =
    elim (ltb enum_reserved k) [
      | true ↦ refuse BadRequest
      | false ↦ elim (ltb most_words (length ws)) [
        | true ↦ refuse BeyondLimit
        | false ↦ elim (eqb (length ws % 2) 1) [ true ↦ refuse BadRequest | false ↦ pairs k ws ]
      ]
    ]
