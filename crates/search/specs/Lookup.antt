-- Look-ups of an extension, from 01's "The search": by full name, and by its path in a scope.
--
--                      found_in s n c == the first extension of the name n that the scope c declares, with the index of its file
--                        found_at s p == the first scope's first extension at the path p
--                 found_among s at ps == the first of the paths ps at which there is one, and its position, `at` for the first of ps
--           or_not_found found refused == what a look-up answers of what there is; of nothing that no extension was found
--         find_extension_by_abs_path s p == the extension at the path p
--                 tried s scope name == of the candidates of a name in a scope the first at which there is one, and its position
--                         resolved t == the extension of the candidate that answers
--   find_extension_by_path s scope name == the extension that a name finds in a scope
--                       extended b c == the candidate c as one whose extension is of the message asked for where b holds, else of another
--                     compared s m t == the candidate that answers, compared with the message m
--     ext_resolve_field s scope m name == the candidate that answers for a name in a scope, compared with the message m
--
-- Assumes nothing.
use Rattle.std.specs.Prelude.{Bool, true, false, List, [], ◌∷◌, ℕ, ◌+◌, Option, None, Some, Err, Ok, Result}
use Rattle.reply.specs.declared.Refusal.{Refusal}
use Rattle.reply.specs.declared.Refusal.TheVariants.{ExtensionNotFound}
use Rattle.path.specs.Path.{Name, Path, parent, last}
use Rattle.candidates.specs.Candidates.{candidates}
use Rattle.sheet.specs.Table.{extension_tag}
use Rattle.basis.specs.First.{told, given, or_else, first_some}
use Rattle.scope.specs.Scope.{Scope, declaration_named, extends}
use Rattle.search.specs.declared.extension.Found.{Found}
use Rattle.search.specs.declared.extension.Candidate.{Candidate}
use Rattle.search.specs.declared.extension.Compared.{Compared}
use Rattle.search.specs.declared.extension.Compared.TheVariants.{Extends, ExtendsOther}
use Rattle.scopes.specs.Scopes.{scopes}

abbrev pub found_in : (s : List ℕ) (n : Name) (c : Scope) → Option Found
found_in s n c = given (declaration_named extension_tag s n c) λ d. Some (record { file = c.place.file; declaration = d })

-- "The answer is the first candidate, then first scope, then first declared extension with the last component as its name." [SEARCH-4]
unfoldable pub found_at : (s : List ℕ) (p : Path) → Option Found
found_at s [] = None
found_at s (n ∷ ns) = first_some (found_in s (last (n ∷ ns))) (scopes s (parent (n ∷ ns)))

abbrev pub found_among : (s : List ℕ) (at : ℕ) (ps : List Path) → Option Candidate
found_among s at [] = None
found_among s at (p ∷ ps) = or_else (given (found_at s p) λ f. Some (record { position = at; found = f })) (found_among s (at + 1) ps)

-- 01, Replies: 4, "no candidate has it". Here alone nothing becomes a refusal: whoever looks up an extension hands on what it is told.
-- [SEARCH-6]
abbrev pub or_not_found : {A B : Type 0} → (found : A → B) (refused : Refusal → B) → Option A → B
or_not_found found refused = told (refused ExtensionNotFound) found

unfoldable pub find_extension_by_abs_path : (s : List ℕ) (p : Path) → Result Found Refusal
find_extension_by_abs_path s p = or_not_found Ok Err (found_at s p)

unfoldable pub tried : (s scope name : List ℕ) → Result Candidate Refusal
tried s scope name = or_not_found Ok Err (found_among s 0 (candidates scope name))

abbrev pub resolved : Result Candidate Refusal → Result Found Refusal
resolved (Ok c) = Ok c.found
resolved (Err w) = Err w

unfoldable pub find_extension_by_path : (s scope name : List ℕ) → Result Found Refusal
find_extension_by_path s scope name = resolved (tried s scope name)

-- "Only then is the extendee compared; a mismatch ends the search." [SEARCH-7]
abbrev pub extended : (fits : Bool) (c : Candidate) → Result Compared Refusal
extended true c = Ok (Extends c)
extended false c = Ok (ExtendsOther c)

abbrev pub compared : (s m : List ℕ) → Result Candidate Refusal → Result Compared Refusal
compared s m (Ok c) = extended (extends s m c.found.declaration) c
compared s m (Err w) = Err w

unfoldable pub ext_resolve_field : (s scope m name : List ℕ) → Result Compared Refusal
ext_resolve_field s scope m name = compared s m (tried s scope name)
