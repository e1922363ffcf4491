-- The theorems about the two numberings of oneofs, each below the sentence that it says. The words are in specs/Fields.antt and, of lists,
-- in Among.antt of `basis`. `ws` is a list of fields, any words; a numbering is any number where nothing else is said, though
-- `lower_fields_by` takes none above `synthetic_last`.
-- Assumes nothing.
use Rattle.std.specs.Prelude.{◌≡◌, List, ℕ, ◌≤◌, ◌<◌, length, get_or, None, Some}
use Rattle.basis.specs.Among.{Among, Ordered}
use Rattle.basis.specs.Count.{count}
use Rattle.basis.proofs.Kit.{arith}
use Rattle.reply.specs.Outcome.{give, within, answer_of}
use Rattle.oneofs.specs.Fields.{lower_fields, real, synthetic, Oneof, kind_of, is_real, Group, groups, opened, real_count}
use Rattle.oneofs.specs.Fields.{declared, synthetic_last, index_of, lower_fields_by, Alike}
use Rattle.oneofs.proofs.DeclaredLaws as declares
use Rattle.oneofs.proofs.OpenedLaws as opens
use Rattle.oneofs.proofs.OrderLaws as order
use Rattle.oneofs.proofs.WordLaws as fields

-- ---- 1. In order of declaration, fields lower to what they lower to without a choice.
pub declared_same : (ws : List ℕ) → lower_fields_by declared ws ≡ lower_fields ws
declared_same = declares.fields-declared

-- ---- 2. In both numberings a list is refused alike, or has as many words,
module _ (a b : ℕ) (ws : List ℕ) (h : a ≤ synthetic_last) (h' : b ≤ synthetic_last) where
  pub refused-alike : Alike (lower_fields_by a ws) (lower_fields_by b ws)
  refused-alike = fields.fields-alike a b ws h h'

  -- so that the answer is the same in every room.
  pub same_answer : (room : ℕ) → answer_of (within room (lower_fields_by a ws)) ≡ answer_of (within room (lower_fields_by b ws))
  same_answer room = fields.answers-alike (lower_fields_by a ws) (lower_fields_by b ws) room refused-alike

-- ---- 3. In any numbering, any two oneofs of one list have different indices, those that no field shows too,
pub index-apart : (numbering : ℕ) (ws : List ℕ)
    → Ordered (λ x y. index_of numbering (real_count ws) x ≡ index_of numbering (real_count ws) y → ⊥) (opened ws)
index-apart = order.index-apart

-- so that an index tells which oneof it is of.
pub index-unique : (numbering : ℕ) (ws : List ℕ) (x y : Oneof) → Among x (opened ws) → Among y (opened ws)
    → index_of numbering (real_count ws) x ≡ index_of numbering (real_count ws) y → x ≡ y
index-unique = order.index-unique

-- Every field's oneof is one of them.
pub group-opened : (ws : List ℕ) (gs : List Group) → groups ws ≡ give gs → (x : Oneof) → Among (Some x) gs → Among x (opened ws)
group-opened = opens.group-opened

-- So a field's word is 0 exactly when its group is none. `gs` are the groups of the fields and `xs` their words; behind the last field
-- there is no group, and the word is read as 0.
module _
    (numbering : ℕ) (ws : List ℕ) (gs : List Group) (e : groups ws ≡ give gs) (xs : List ℕ) (f : lower_fields_by numbering ws ≡ give xs) where
  pub word_none : (i : ℕ) → get_or xs i 0 ≡ 0 → get_or gs i None ≡ None
  word_none = fields.word_none numbering ws gs e xs f

  pub none-word : (i : ℕ) → get_or gs i None ≡ None → get_or xs i 0 ≡ 0
  none-word = fields.none-word numbering ws gs e xs f

  -- And two fields have the same word exactly when they have the same group.
  pub word-group : (i j : ℕ) → get_or xs i 0 ≡ get_or xs j 0 → get_or gs i None ≡ get_or gs j None
  word-group = fields.word-group numbering ws gs e xs f

  pub group-word : (i j : ℕ) → get_or gs i None ≡ get_or gs j None → get_or xs i 0 ≡ get_or xs j 0
  group-word = fields.group-word numbering ws gs e xs f

-- Hence fields that share a word in one numbering share one in the other, and what is 0 in one is 0 in the other.
module _ (a b : ℕ) (ws xs ys : List ℕ) (f : lower_fields_by a ws ≡ give xs) (f' : lower_fields_by b ws ≡ give ys) where
  pub same-groups : (i j : ℕ) → get_or xs i 0 ≡ get_or xs j 0 → get_or ys i 0 ≡ get_or ys j 0
  same-groups i j q =
      let m = fields.words-made a ws xs f in
      group-word b ws m.0 m.1 ys f' i j (word-group a ws m.0 m.1 xs f i j q)

  pub same_none : (i : ℕ) → get_or xs i 0 ≡ 0 → get_or ys i 0 ≡ 0
  same_none i q =
      let m = fields.words-made a ws xs f in
      none-word b ws m.0 m.1 ys f' i (word_none a ws m.0 m.1 xs f i q)

-- ---- 4. As many of the oneofs are real as the list has 2s.
pub opened-reals : (ws : List ℕ) → count is_real (opened ws) ≡ real_count ws
opened-reals = opens.opened-reals

-- With the synthetic ones last, every real oneof has an index below the number of real ones, empty ones counted, and every
-- synthetic one has that index or a higher one,
pub real-low : (ws : List ℕ) (x : Oneof) → Among x (opened ws) → kind_of x ≡ real → index_of synthetic_last (real_count ws) x < real_count ws
real-low = order.real-low

pub synthetic-high : (ws : List ℕ) (x : Oneof) → Among x (opened ws) → kind_of x ≡ synthetic
    → real_count ws ≤ index_of synthetic_last (real_count ws) x
synthetic-high = order.synthetic-high

-- so that every real index is below every synthetic one.
pub real-below-synthetic : (ws : List ℕ) (x y : Oneof) → Among x (opened ws) → Among y (opened ws) → kind_of x ≡ real → kind_of y ≡ synthetic
    → index_of synthetic_last (real_count ws) x < index_of synthetic_last (real_count ws) y
real-below-synthetic ws x y m m' k k' = omega (arith, real-low ws x m k, synthetic-high ws y m' k')

-- ---- 5. In any numbering, of two oneofs of one kind the one declared first has the smaller index,
pub index-rises : (numbering : ℕ) (ws : List ℕ)
    → Ordered (λ x y. kind_of x ≡ kind_of y → index_of numbering (real_count ws) x < index_of numbering (real_count ws) y) (opened ws)
index-rises = order.index-rises

-- and every index is below the number of oneofs.
pub index_below : (numbering : ℕ) (ws : List ℕ) (x : Oneof) → Among x (opened ws) → index_of numbering (real_count ws) x < length (opened ws)
index_below = order.index_below
