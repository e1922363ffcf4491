-- The words of the theorems about the search, proofs/Theorems.antt.
--
--           Declares s p d c <-> the scope c stands at the path before p's last name, and declares the extension d under that name
--             Undeclared s p <-> no scope declares an extension under the path p
--     Answers s scope name f <-> f is declared under a candidate of the name, by a scope there; before this candidate, before this scope
--                                and before f in the scope nothing is declared so
--   AnswersAt s scope name c <-> and this candidate has the position of c among the candidates, counted from 0; under none at a position
--                                before that is anything declared
--              Gives s p i c <-> the package of the i-th file leads the path p, and the rest, followed as message names, comes to the
--                                scope c
--              package_of s c ==  the package of the file that the scope c is of, as a path
--              Earlier s c d <-> the package of c has fewer components than that of d; or as many, and its file stands before that of d
--
-- Assumes nothing.
use Rattle.std.specs.Prelude.{◌≡◌, true, List, [], ◌++◌, map, ℕ, ◌<◌, length, get_or, Some}
use Rattle.std.proofs.Math.ListN.{get_elem?}
use mathlib.Core.Option as option
use Rattle.field.specs.Leaf.{text, is_text}
use Rattle.path.specs.Path.{Path, components, parent, last}
use Rattle.candidates.specs.Candidates.{candidates, candidate}
use Rattle.sheet.specs.declared.declaration.Declaration.{Declaration}
use Rattle.sheet.specs.Tree.{File, tree_of}
use Rattle.sheet.specs.Members.{extensions_of}
use Rattle.basis.specs.Among.{Among, Behind}
use Rattle.search.specs.declared.extension.Found.{Found}
use Rattle.search.specs.declared.extension.Candidate.{Candidate}
use Rattle.scope.specs.Scope.{Scope, file_scope}
use Rattle.scopes.specs.Scopes.{follow, scopes}

-- ---- what is declared, and what answers
pub record Declares (s : List ℕ) (p : Path) (d : Declaration) (c : Scope) : Type 0 where
  pub scope : Among c (scopes s (parent p))
  pub extension : Among d (extensions_of c.items)
  pub name : is_text s (last p) d.name ≡ true

abbrev pub Undeclared : (s : List ℕ) (p : Path) → Type 0
Undeclared s p = (d : Declaration) (c : Scope) → Declares s p d c → ⊥

pub record Answers (s scope name : List ℕ) (f : Found) : Type 0 where
  pub path : Path
  pub holder : Scope
  pub declares : Declares s path f.declaration holder
  pub file : f.file ≡ holder.place.file
  pub first-candidate : Behind (λ p. Undeclared s p) path (candidates scope name)
  pub first-scope : Behind (λ c. (d : Declaration) → Declares s path d c → ⊥) holder (scopes s (parent path))
  pub first-declared : Behind (λ d. Declares s path d holder → ⊥) f.declaration (extensions_of holder.items)

pub record AnswersAt (s scope name : List ℕ) (c : Candidate) : Type 0 where
  pub answers : Answers s scope name c.found
  pub within : c.position < length (candidates scope name)
  pub path : answers.path ≡ candidate scope name c.position
  pub before : (i : ℕ) → i < c.position → Undeclared s (candidate scope name i)

-- ---- the files that the scopes at a path are of
pub record Gives (s : List ℕ) (p : Path) (i : ℕ) (c : Scope) : Type 0 where
  pub file : File
  pub is : get_elem? (tree_of s) i ≡ option.some file
  pub rest : Path
  pub leads : components (text s file.package_name) ++ rest ≡ p
  pub follows : follow s rest (file_scope i file) ≡ Some c

abbrev pub package_of : (s : List ℕ) (c : Scope) → Path
package_of s c = get_or (map (λ f. components (text s f.package_name)) (tree_of s)) c.place.file []

pub data Earlier (s : List ℕ) (c d : Scope) : Type 0 where
  fewer : length (package_of s c) < length (package_of s d) → Earlier s c d
  sooner : length (package_of s c) ≡ length (package_of s d) → c.place.file < d.place.file → Earlier s c d
