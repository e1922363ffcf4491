-- The stack of open levels, as words of lent memory.
--
--       level_words ==  how many words a level has
--       stack_words ==  how many words all levels have
--        words_of v ==  the words of the level v
--     level_at st l ==  the level l of the stack st
--   message_in s t l v == the message of the level v, which is the l-th: the outermost is the options type t
--
-- Assumes nothing.
use Rattle.std.specs.Prelude.{List, [], ◌∷◌, ℕ, ◌+◌, ◌*◌, eqb, get_or, not}
use Rattle.basis.specs.First.{only_if}
use Rattle.limits.specs.Figures.{most_levels}
use Rattle.field.specs.Leaf.{span, text}
use Rattle.lookups.specs.Lookups.{Message}
use Rattle.levels.specs.declared.Level.{Level}

abbrev pub level_words : ℕ
level_words = 8

abbrev pub stack_words : ℕ
stack_words = most_levels * level_words

abbrev pub words_of : Level → List ℕ
words_of v =
    v.end ∷ v.name.from ∷ v.name.to ∷ v.place.file ∷ only_if v.place.message 1 0 ∷ v.place.body.from ∷ v.place.body.to
    ∷ v.place.left ∷ []

unfoldable pub level_at : (stack : List ℕ) (index : ℕ) → Level
level_at st l = record {
  end = get_or st (l * level_words) 0;
  name = span (get_or st (l * level_words + 1) 0) (get_or st (l * level_words + 2) 0);
  place = record {
    file = get_or st (l * level_words + 3) 0;
    message = not (eqb (get_or st (l * level_words + 4) 0) 0);
    body = span (get_or st (l * level_words + 5) 0) (get_or st (l * level_words + 6) 0);
    left = get_or st (l * level_words + 7) 0;
  };
}

unfoldable pub message_in : (s type : List ℕ) (index : ℕ) → Level → Message
message_in s t l v = record { name = only_if (eqb l 0) t (text s v.name); place = v.place }
