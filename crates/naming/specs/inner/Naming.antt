-- The parts of a name, gone through by their places.
--
--        behind_part L s q i d ps ==  the parts ps behind the i-th, which came to the declaration d
--          step_part L s q i v ps ==  the i-th part, which came to v, and the parts ps behind it
--            Namable q c at k ws <-> the parts of the name q from a place on can be gone through, the k-th first: they are good, the scope c is
--                                    empty, and the words ws have room for their keys
--   Declares joins n k ws ws' r <-> of parts that come to n, the k-th first, the code's answer is r, with their keys behind the first k of ws
--
-- Assumes nothing.
use Rattle.std.specs.Prelude.{◌≡◌, Bool, List, [], ◌∷◌, map, ℕ, ◌+◌, ◌*◌, ◌^◌, ◌≤◌, length, Err, Ok, Result}
use Rattle.reply.specs.declared.Refusal.{Refusal}
use Rattle.reply.specs.declared.Cause.{Cause}
use Rattle.field.specs.Walk.{walk}
use Rattle.sheet.specs.declared.declaration.Declaration.{Declaration}
use Rattle.request.specs.declared.name.Part.{Part}
use Rattle.request.specs.Name.{parts_in}
use Rattle.optionform.specs.inner.Parts.{NameParts}
use Rattle.lookups.specs.Lookups.{Lookups}
use Rattle.following.specs.inner.Keys.{key_of, key_words, keys_from, keys_at}
use Rattle.naming.specs.declared.Naming.{Naming}
use Rattle.naming.specs.declared.Naming.TheVariants.{Parts, Group}
use Rattle.naming.specs.Name.{Named, names, group, refused_at, of_part, also, on_step, left, declarations}
use Rattle.steps.specs.declared.Lack.{Lack}

module _ (L : Lookups) (s q : List ℕ) where
  abbrev pub behind_part : (part : ℕ) → Declaration → List Part → Named
  behind_part i d [] = names []
  behind_part i d (o ∷ ps) = left L s q i d λ n. declarations L s q (i + 1) n (o ∷ ps)

  abbrev pub step_part : (part : ℕ) → Result Declaration Lack → List Part → Named
  step_part i v ps = on_step i v λ d. also d (behind_part i d ps)

pub record Namable (q scope : List ℕ) (at index : ℕ) (words : List ℕ) : Type 0 where
  pub within : at ≤ length q
  pub parts : NameParts q at (length q)
  pub empty : scope ≡ []
  pub room : (index + length (parts_in (walk q at (length q)))) * key_words ≤ length words
  pub few : length words ≤ 2 ^ 32

-- the keys of the parts before stay
pub data Declares (joins : Declaration → Bool) : Named → (index : ℕ) (before after : List ℕ) → Result Naming Cause → Type 0 where
  declares : {ds : List Declaration} {k n : ℕ} {ws ws' : List ℕ} → n ≡ k + length ds → keys_from ws' k (length ds) ≡ map (key_of joins) ds
      → keys_at ws' k ≡ keys_at ws k → Declares joins (names ds) k ws ws' (Ok (Parts n))
  leaves-group : {k : ℕ} {ws ws' : List ℕ} → Declares joins group k ws ws' (Ok Group)
  refuses : {k i : ℕ} {w : Refusal} {ws ws' : List ℕ} → Declares joins (refused_at i w) k ws ws' (Err (of_part i w))
