-- Oneof indices of a message's fields, from 01's "Listing and lowering": "u32 words, 0 plain, 1 proto3 optional, 2 a oneof opens, 3 its
-- member". Which oneof a field belongs to comes first, then the index of each oneof: in order of declaration, as 01 has it, or with the
-- oneofs that are made for optional fields after all others, as the caller chooses.
--
--       oneofs count member ws ==  the words of the fields ws, or a refusal, after `count` oneofs; `member` is what a member
--                                  gives, 0 where no oneof is open
--               lower_fields ws ==  what lowering fields comes to
--
--                  Kind, Oneof ==  a oneof, known by its kind and by how many of each kind are opened before it
--           kind_of x, is_real x ==  its kind, and whether that is real
--                        Group ==  what a field belongs to: a oneof, or none
--          joining member rest ==  a member's group in front of the rest, or a refusal where no oneof is open
--    groups_after r s member ws ==  the groups of the fields ws, or a refusal, after r real and s synthetic oneofs
--                    groups ws ==  the groups of the fields ws, or a refusal
--                    opened ws ==  all oneofs of ws in order of declaration, those without a member too
--                 real_count ws ==  how many 2s ws has
--
--      declared, synthetic_last ==  the two numberings
--    index_of numbering reals x ==  the index of the oneof x where there are so many real ones
--     word_of numbering reals g ==  the word of a field of the group g
--   numbered numbering reals o ==  the words of the groups o, or their refusal
--   lower_fields_by numbering ws ==  what lowering fields comes to in a numbering
--                    Alike o q <-> o and q are one refusal, or give as many words
--
-- Assumes nothing.
use Rattle.std.specs.Prelude.{◌≡◌, Bool, true, false, List, [], ◌∷◌, map, ℕ, suc, ◌+◌, eqb, ltb, length, Option, None, Some}
use Rattle.basis.specs.Count.{count}
use Rattle.limits.specs.Figures.{most_words}
use Rattle.reply.specs.declared.Cause.{Cause}
use Rattle.reply.specs.declared.Refusal.TheVariants.{BadRequest, BeyondLimit}
use Rattle.reply.specs.Outcome.{Outcome, refused, refuse, nothing, give, push}

-- "A 1 opens a oneof at the count so far; a 2 gives its index to its members and counts, empty or not. Each 0, 1 and 3 gives one u32 word:
-- 0 for none, else index + 1"; "a 3 not right after a 2 or 3, or another word, is 2". The index of the oneof opened last is
-- the count before it, so its word is the count with it [LOWER-6, LOWER-7, LOWER-8]
unfoldable pub oneofs : (count member : ℕ) (ws : List ℕ) → Outcome ℕ
oneofs count member [] = give []
oneofs count member (w ∷ ws) =
    elim (eqb w 0) [
      | true ↦ push (0 ∷ []) (oneofs count 0 ws)
      | false ↦ elim (eqb w 1) [
        | true ↦ push (suc count ∷ []) (oneofs (suc count) 0 ws)
        | false ↦ elim (eqb w 2) [
          | true ↦ oneofs (suc count) (suc count) ws
          | false ↦ elim (eqb w 3) [
            | true ↦ elim (eqb member 0) [ true ↦ refuse BadRequest | false ↦ push (member ∷ []) (oneofs count member ws) ]
            | false ↦ refuse BadRequest
          ]
        ]
      ]
    ]

-- "at most 4,096 words a list (else 3)" [LOWER-1, LOWER-9]
unfoldable pub lower_fields : List ℕ → Outcome ℕ
lower_fields ws = elim (ltb most_words (length ws)) [ true ↦ refuse BeyondLimit | false ↦ oneofs 0 0 ws ]

-- ---- which oneof a field belongs to, whatever its index

-- a real oneof is declared, a synthetic one is made for an optional field
pub data Kind : Type 0 where
  real : Kind
  synthetic : Kind

pub data Oneof : Type 0 where
  oneof : (kind : Kind) (reals synthetics : ℕ) → Oneof

abbrev pub kind_of : Oneof → Kind
kind_of (oneof kind reals synthetics) = kind

abbrev pub is_real : Oneof → Bool
is_real x = elim (kind_of x) [ real ↦ true | synthetic ↦ false ]

abbrev pub Group : Type 0
Group = Option Oneof

-- "a 3 not right after a 2 or 3 .. is 2" [LOWER-6]
abbrev pub joining : (member : Group) (rest : Outcome Group) → Outcome Group
joining None rest = refuse BadRequest
joining (Some x) rest = push (Some x ∷ []) rest

-- the same words as above, with what a oneof is in place of its index
unfoldable pub groups_after : (reals synthetics : ℕ) (member : Group) (ws : List ℕ) → Outcome Group
groups_after r s member [] = give []
groups_after r s member (w ∷ ws) =
    elim (eqb w 0) [
      | true ↦ push (None ∷ []) (groups_after r s None ws)
      | false ↦ elim (eqb w 1) [
        | true ↦ push (Some (oneof synthetic r s) ∷ []) (groups_after r (suc s) None ws)
        | false ↦ elim (eqb w 2) [
          | true ↦ groups_after (suc r) s (Some (oneof real r s)) ws
          | false ↦ elim (eqb w 3) [ true ↦ joining member (groups_after r s member ws) | false ↦ refuse BadRequest ]
        ]
      ]
    ]

abbrev pub groups : List ℕ → Outcome Group
groups ws = groups_after 0 0 None ws

-- ---- all oneofs of a list, those without a member too
unfoldable pub opened_after : (reals synthetics : ℕ) (ws : List ℕ) → List Oneof
opened_after r s [] = []
opened_after r s (w ∷ ws) =
    elim (eqb w 1) [
      | true ↦ oneof synthetic r s ∷ opened_after r (suc s) ws
      | false ↦ elim (eqb w 2) [ true ↦ oneof real r s ∷ opened_after (suc r) s ws | false ↦ opened_after r s ws ]
    ]

abbrev pub opened : List ℕ → List Oneof
opened ws = opened_after 0 0 ws

-- "a 2 .. counts, empty or not" [LOWER-7]
abbrev pub real_count : List ℕ → ℕ
real_count ws = count (λ w. eqb w 2) ws

-- ---- indices

-- the caller's choice [LOWER-10]
abbrev pub declared : ℕ
declared = 0

abbrev pub synthetic_last : ℕ
synthetic_last = 1

-- "A 1 opens a oneof at the count so far; a 2 .. counts"; or, as descriptor.proto says of proto3_optional, "Synthetic oneofs must be
-- ordered after all "real" oneofs": of a real one the real ones before it, of a synthetic one all real ones and the synthetic ones
-- before it [LOWER-7, LOWER-10]
unfoldable pub index_of : (numbering reals : ℕ) → Oneof → ℕ
index_of numbering reals (oneof kind r s) =
    elim (eqb numbering declared) [ true ↦ r + s | false ↦ elim kind [ real ↦ r | synthetic ↦ reals + s ] ]

-- "0 for none, else index + 1" [LOWER-8]
abbrev pub word_of : (numbering reals : ℕ) → Group → ℕ
word_of numbering reals None = 0
word_of numbering reals (Some x) = suc (index_of numbering reals x)

abbrev pub numbered : (numbering reals : ℕ) → Outcome Group → Outcome ℕ
numbered numbering reals (refused c) = refused c
numbered numbering reals nothing = nothing
numbered numbering reals (give gs) = give (map (word_of numbering reals) gs)

-- another numbering is 2 before any 3, as another kind of ranges is [LOWER-9, LOWER-10]
unfoldable pub lower_fields_by : (numbering : ℕ) (ws : List ℕ) → Outcome ℕ
lower_fields_by numbering ws =
    elim (ltb synthetic_last numbering) [
      | true ↦ refuse BadRequest
      | false ↦ elim (ltb most_words (length ws)) [ true ↦ refuse BeyondLimit | false ↦ numbered numbering (real_count ws) (groups ws) ]
    ]

-- ---- two numberings beside each other [LOWER-11]
pub data Alike : Outcome ℕ → Outcome ℕ → Type 0 where
  both-refused : {c : Cause} → Alike (refused c) (refused c)
  as_many : {xs ys : List ℕ} → length xs ≡ length ys → Alike (give xs) (give ys)
