-- Closed cases of the definitions, computed: of each rule one that holds, one at the limit and one refused just past it.
-- Assumes nothing.
use Rattle.std.specs.Prelude.{◌≡◌, refl, true, false, List, [], ◌∷◌, ◌++◌, map, ℕ, length}
use lib.ListN.{replicate}
use Rattle.ident.specs.Ident.{is_letter, is_digit, all_word, is_ident}
use Rattle.path.specs.Path.{Name, dot, on_first, split, components, spell, all_ident, is_rel_path, is_rel_or_empty}
use Rattle.path.specs.Path.{rootless, is_path, parent, last}
use Rattle.path.specs.inner.Places.{names_from}

abbrev a : Name
a = 97 ∷ []

abbrev b : Name
b = 98 ∷ []

-- a name of n bytes
abbrev wide : ℕ → Name
wide n = replicate n 97

-- ---- texts of paths
abbrev a·b : List ℕ
a·b = 97 ∷ dot ∷ 98 ∷ []

-- three names of 63 bytes and one of n: 255 bytes where n is 63
abbrev long : ℕ → List ℕ
long n = spell (wide 63 ∷ wide 63 ∷ wide 63 ∷ wide n ∷ [])

longs : map length (long 63 ∷ long 64 ∷ []) ≡ 255 ∷ 256 ∷ []
unfolding spell
longs = refl

-- `a`, `a.b` and 255 bytes
abbrev plain : List (List ℕ)
plain = a ∷ a·b ∷ long 63 ∷ []

-- `.`, `a.`, `a..b`, `..a` and 256 bytes
abbrev odd : List (List ℕ)
odd = (dot ∷ []) ∷ (97 ∷ dot ∷ []) ∷ (97 ∷ dot ∷ dot ∷ b) ∷ (dot ∷ dot ∷ a) ∷ long 64 ∷ []

-- `.a.b` and 255 bytes with a leading dot
abbrev rooted : List (List ℕ)
rooted = (dot ∷ a·b) ∷ (dot ∷ long 62) ∷ []

plain-rel : map is_rel_path plain ≡ replicate 3 true
unfolding is_rel_path all_ident is_ident is_letter is_digit all_word split on_first spell
plain-rel = refl

not-rel : map is_rel_path ([] ∷ odd ++ rooted) ≡ replicate 8 false
unfolding is_rel_path all_ident is_ident is_letter is_digit all_word split on_first spell
not-rel = refl

empty-too : map is_rel_or_empty ([] ∷ plain) ≡ replicate 4 true
unfolding is_rel_or_empty components all_ident is_ident is_letter is_digit all_word split on_first spell
empty-too = refl

not-or-empty : map is_rel_or_empty (odd ++ rooted) ≡ replicate 7 false
unfolding is_rel_or_empty components all_ident is_ident is_letter is_digit all_word split on_first spell
not-or-empty = refl

rooted-paths : map is_path (plain ++ rooted) ≡ replicate 5 true
unfolding is_path rootless all_ident is_ident is_letter is_digit all_word split on_first spell
rooted-paths = refl

-- the last has 256 bytes with its leading dot
no-paths : map is_path ([] ∷ odd ++ ((dot ∷ long 63) ∷ [])) ≡ replicate 7 false
unfolding is_path rootless all_ident is_ident is_letter is_digit all_word split on_first spell
no-paths = refl

-- ---- paths and their texts
read : map components ([] ∷ a ∷ a·b ∷ (dot ∷ []) ∷ []) ≡ [] ∷ (a ∷ []) ∷ (a ∷ b ∷ []) ∷ ([] ∷ [] ∷ []) ∷ []
unfolding components split on_first
read = refl

written : map spell ([] ∷ (a ∷ []) ∷ (a ∷ b ∷ []) ∷ []) ≡ [] ∷ a ∷ a·b ∷ []
unfolding spell
written = refl

-- the path of one empty name is not read back from its text: why a candidate is put together by counting components
lost : components (spell ([] ∷ [])) ≡ []
unfolding components spell
lost = refl

parents : map parent ([] ∷ (a ∷ []) ∷ (a ∷ b ∷ []) ∷ []) ≡ [] ∷ [] ∷ (a ∷ []) ∷ []
unfolding parent
parents = refl

-- of the empty text, `a`, `a.b`, `.b` and `a.`
lasts : map (λ (t : List ℕ). last (components t)) ([] ∷ a ∷ a·b ∷ (dot ∷ b) ∷ (97 ∷ dot ∷ []) ∷ []) ≡ [] ∷ a ∷ b ∷ b ∷ [] ∷ []
unfolding last components split on_first
lasts = refl

-- `a.b` from its start, from its dot, from behind that, and past its end
names : map (names_from a·b) (0 ∷ 1 ∷ 2 ∷ 4 ∷ []) ≡ (a ∷ b ∷ []) ∷ ([] ∷ b ∷ []) ∷ (b ∷ []) ∷ [] ∷ []
unfolding names_from split on_first
names = refl

-- at the end of `a` there is one empty name, and past it none
names-one : map (names_from a) (0 ∷ 1 ∷ 2 ∷ []) ≡ (a ∷ []) ∷ ([] ∷ []) ∷ [] ∷ []
unfolding names_from split on_first
names-one = refl

-- the empty text has one empty name at its start, and none past it
names-none : map (names_from []) (0 ∷ 1 ∷ []) ≡ ([] ∷ []) ∷ [] ∷ []
unfolding names_from split on_first
names-none = refl

-- `.b` has an empty name before its dot
names_dot : map (names_from (dot ∷ b)) (0 ∷ 1 ∷ 2 ∷ 3 ∷ []) ≡ ([] ∷ b ∷ []) ∷ (b ∷ []) ∷ ([] ∷ []) ∷ [] ∷ []
unfolding names_from split on_first
names_dot = refl
