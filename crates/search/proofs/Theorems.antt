-- The theorems about the search, each below the sentence that it says. The words are in specs/Answers.antt and, of lists, in
-- Among.antt of `basis`; what they are about is defined in specs/Lookup.antt, in Scopes.antt of `scopes` and in Candidates.antt of
-- `candidates`. `s` is the sheet, whatever its bytes.
-- Assumes nothing.
use Rattle.std.specs.Prelude.{◌≡◌, refl, true, false, List, [], ◌∷◌, ◌++◌, ℕ, suc, ◌-◌, ◌≤◌, ◌<◌, length, take, Err, Ok}
use Rattle.basis.specs.Kit.{sym, ap, ◌∙◌}
use Rattle.reply.specs.declared.Refusal.{Refusal}
use Rattle.reply.specs.declared.Refusal.TheVariants.{ExtensionNotFound}
use Rattle.octets.specs.Octets.{same_bytes}
use Rattle.path.specs.Path.{Path, dot, components, spell, all_ident, is_rel_or_empty, is_abs, rootless, is_path, parent}
use Rattle.candidates.specs.Candidates.{ancestors}
use Rattle.candidates.specs.Candidates.{candidates, candidate}
use Rattle.candidates.proofs.CandidateLaws.{candidates-abs, candidates-length-rel, candidate-rel}
use Rattle.search.specs.declared.extension.Found.{Found}
use Rattle.search.specs.declared.extension.Candidate.{Candidate}
use Rattle.search.specs.declared.extension.Compared.TheVariants.{Extends, ExtendsOther}
use Rattle.scope.specs.Scope.{Scope}
use Rattle.scopes.specs.Scopes.{scopes}
use Rattle.scope.specs.Scope.{extends}
use Rattle.search.specs.Lookup.{found_at, or_not_found, find_extension_by_abs_path, tried, find_extension_by_path, ext_resolve_field}
use Rattle.basis.specs.Among.{Among, Ordered}
use Rattle.search.specs.Answers.{Undeclared, Answers, AnswersAt, Gives, Earlier}
use Rattle.basis.proofs.AmongLaws.{ordered-mono}
use Rattle.basis.proofs.AmongFirsts.{firsts-none, none-firsts, firsts-one}
use Rattle.search.proofs.CandidateOrder.{candidates-fall, candidates-some, candidates-idents, parent-idents}
use Rattle.search.proofs.TriedLaws.{by-path, by-path-none, by-path-why, none-by-path, resolved-tried}
use Rattle.search.proofs.TriedLaws.{compared-refused, compared-extends, compared-other, extended-same, extended-other}
use Rattle.search.proofs.FoundLaws as found
use Rattle.scopes.proofs.ScopeFiles as files
use Rattle.search.proofs.ScopeOrder.{from-ordered, earlier-apart, from_gives, gives-from}

-- ---- when nothing is found

-- Nothing is found exactly when of no candidate a scope at the path before its last name declares an extension of that name.
pub nowhere-none : (s scope name : List ℕ) → is_path name ≡ true → find_extension_by_path s scope name ≡ Err ExtensionNotFound
    → (p : Path) → Among p (candidates scope name) → Undeclared s p
nowhere-none s scope name h e p m =
    found.find_none s p (candidates-some scope name h p m) (firsts-none (found_at s) (by-path-none s scope name ExtensionNotFound e) m)

pub none-nowhere : (s scope name : List ℕ) → ((p : Path) → Among p (candidates scope name) → Undeclared s p)
    → find_extension_by_path s scope name ≡ Err ExtensionNotFound
none-nowhere s scope name h =
    none-by-path s scope name (none-firsts (found_at s) (candidates scope name) λ p m. found.none-find s p (h p m))

-- There is no other refusal: a search finds an extension, or that there is none.
pub refused-not-found : (s scope name : List ℕ) (w : Refusal) → find_extension_by_path s scope name ≡ Err w → w ≡ ExtensionNotFound
refused-not-found = by-path-why

-- ---- what is found

-- 01: "The answer is the first candidate, then first scope, then first declared extension with the last component as its name." That scope
-- declares it under that candidate. Under no candidate before it is anything declared; of the scopes there, none before it declares that
-- name; and in the scope no extension before it has that name.
pub found-answers : (s scope name : List ℕ) (f : Found) → find_extension_by_path s scope name ≡ Ok f → Answers s scope name f
found-answers = found.found-answers

-- And what this can be said of is found: it can be said of one thing only.
pub answers-found : (s scope name : List ℕ) (f : Found) → is_path name ≡ true → Answers s scope name f
    → find_extension_by_path s scope name ≡ Ok f
answers-found = found.answers-found

-- The position that is given beside it is that of its candidate, counted from 0: the candidate of that position declares it, and none of a
-- position before that declares anything. So one more than the position is the count of paths tried.
pub tried-answers : (s scope name : List ℕ) (c : Candidate) → tried s scope name ≡ Ok c → AnswersAt s scope name c
tried-answers = found.tried-answers

-- And what this can be said of is the candidate that answers, with its position.
pub answers-tried : (s scope name : List ℕ) → is_path name ≡ true → (c : Candidate) → AnswersAt s scope name c
    → tried s scope name ≡ Ok c
answers-tried = found.answers-tried

-- What is found is what that candidate declares.
pub found-tried : (s scope name : List ℕ) (c : Candidate) → tried s scope name ≡ Ok c
    → find_extension_by_path s scope name ≡ Ok c.found
unfolding find_extension_by_path
found-tried s scope name c e = rw e

-- ---- the extendee

-- 01: "Only then is the extendee compared; a mismatch ends the search." Found first, tested second: the candidate that answers is given,
-- with its position and its extension, and the extendee says no more than whether it is one of the message asked for;
module _ (s scope m name : List ℕ) (c : Candidate) where
  pub extendee-same : tried s scope name ≡ Ok c → extends s m c.found.declaration ≡ true
      → ext_resolve_field s scope m name ≡ Ok (Extends c)
  unfolding ext_resolve_field
  extendee-same e h = rw (e, h)

  pub extendee-other : tried s scope name ≡ Ok c → extends s m c.found.declaration ≡ false
      → ext_resolve_field s scope m name ≡ Ok (ExtendsOther c)
  unfolding ext_resolve_field
  extendee-other e h = rw (e, h)

  -- and neither is said of anything else.
  pub same-tried : ext_resolve_field s scope m name ≡ Ok (Extends c) → tried s scope name ≡ Ok c
  unfolding ext_resolve_field
  same-tried e = compared-extends s m c (tried s scope name) e

  pub other-tried : ext_resolve_field s scope m name ≡ Ok (ExtendsOther c) → tried s scope name ≡ Ok c
  unfolding ext_resolve_field
  other-tried e = compared-other s m c (tried s scope name) e

  pub same-extendee : ext_resolve_field s scope m name ≡ Ok (Extends c) → extends s m c.found.declaration ≡ true
  unfolding ext_resolve_field
  same-extendee e = extended-same c (extends s m c.found.declaration) (rw (same-tried e) at e)

  pub other-extendee : ext_resolve_field s scope m name ≡ Ok (ExtendsOther c) → extends s m c.found.declaration ≡ false
  unfolding ext_resolve_field
  other-extendee e = extended-other c (extends s m c.found.declaration) (rw (other-tried e) at e)

-- Where no candidate answers, nothing is compared: that refusal is the answer, and there alone one is given.
pub refusal-same : (s scope m name : List ℕ) (w : Refusal) → tried s scope name ≡ Err w
    → ext_resolve_field s scope m name ≡ Err w
unfolding ext_resolve_field
refusal-same s scope m name w e = rw e

pub refused-tried : (s scope m name : List ℕ) (w : Refusal) → ext_resolve_field s scope m name ≡ Err w
    → tried s scope name ≡ Err w
unfolding ext_resolve_field
refused-tried s scope m name w e = compared-refused s m (tried s scope name) w e

-- So an extension part that is reached gets ExtensionNotFound exactly when none of 01's scopes at its candidate paths declares that name,
pub not-found-none : (s scope m name : List ℕ) → is_path name ≡ true
    → ext_resolve_field s scope m name ≡ Err ExtensionNotFound → (p : Path) → Among p (candidates scope name) → Undeclared s p
unfolding find_extension_by_path
not-found-none s scope m name h e = nowhere-none s scope name h (rw (refused-tried s scope m name ExtensionNotFound e))

pub none-not-found : (s scope m name : List ℕ) → ((p : Path) → Among p (candidates scope name) → Undeclared s p)
    → ext_resolve_field s scope m name ≡ Err ExtensionNotFound
unfolding find_extension_by_path
none-not-found s scope m name h =
    refusal-same s scope m name ExtensionNotFound (resolved-tried (tried s scope name) ExtensionNotFound (none-nowhere s scope name h))

-- and no other refusal.
pub refusal-not-found : (s scope m name : List ℕ) (w : Refusal) → ext_resolve_field s scope m name ≡ Err w
    → w ≡ ExtensionNotFound
unfolding find_extension_by_path
refusal-not-found s scope m name w e = refused-not-found s scope name w (rw (refused-tried s scope m name w e))

-- ---- candidates

-- 01: "An absolute name has one candidate, itself."
pub absolute-one : (scope name : List ℕ) → is_abs name ≡ true → candidates scope name ≡ components (rootless name) ∷ []
absolute-one = candidates-abs

-- 01: "A relative name has scope plus name, then each parent of the scope plus name, last the name alone." There are as many as the scope
-- has components, and one; the i-th, counted from 0, is the scope without its last i components, plus the name.
pub relative-count : (scope name : List ℕ) → is_abs name ≡ false → length (candidates scope name) ≡ suc (length (components scope))
relative-count = candidates-length-rel

pub relative-at : (scope name : List ℕ) → is_abs name ≡ false → (i : ℕ) → i ≤ length (components scope)
    → candidate scope name i ≡ take (length (components scope) - i) (components scope) ++ components name
relative-at = candidate-rel

-- The innermost path comes first: each candidate is longer than all that follow it.
pub innermost-first : (scope name : List ℕ) → Ordered (λ p q. length q < length p) (candidates scope name)
innermost-first = candidates-fall

-- In the empty scope a relative name has one candidate, itself.
pub unscoped-one : (name : List ℕ) → is_abs name ≡ false → candidates [] name ≡ components name ∷ []
unfolding candidates components ancestors
unscoped-one name h = simp (candidates, h)

-- A leading dot never walks outward: whatever the scope, the search is for that one path.
pub rooted-is : (s scope name : List ℕ) → find_extension_by_path s scope (dot ∷ name) ≡ find_extension_by_abs_path s (components name)
unfolding find_extension_by_abs_path is_abs rootless
rooted-is s scope name =
    by-path s scope (dot ∷ name)
    ∙ rw (candidates-abs scope (dot ∷ name) refl) (ap (or_not_found Ok Err) (firsts-one (found_at s) (components name)))

pub rooted-same : (s scope scope' name : List ℕ) → find_extension_by_path s scope (dot ∷ name) ≡ find_extension_by_path s scope' (dot ∷ name)
rooted-same s scope scope' name = rooted-is s scope name ∙ sym (rooted-is s scope' name)

-- ---- the scopes at a path

-- What is said here of paths of identifiers holds of all paths at which the search looks for scopes.
pub searched-idents : (scope name : List ℕ) → is_rel_or_empty scope ≡ true → is_path name ≡ true
    → (p : Path) → Among p (candidates scope name) → all_ident (parent p) ≡ true
searched-idents scope name h k p m = parent-idents p (candidates-idents scope name h k p m)

-- 01: "Scopes at a path: each file whose package (empty included) leads the path's components follows the rest as message names, the first
-- of that name at each level; if all are found, it gives one scope." The scopes are those that files give;
pub scope-given : (s : List ℕ) (p : Path) → all_ident p ≡ true → (c : Scope) → Among c (scopes s p) → Gives s p c.place.file c
unfolding scopes all_ident
scope-given s p h c = from_gives s [] p refl h c

pub given-scope : (s : List ℕ) (p : Path) (i : ℕ) (c : Scope) → Gives s p i c → Among c (scopes s p)
unfolding scopes
given-scope s p i c = gives-from s p i c

-- a file gives at most one of them;
pub scopes-apart : (s : List ℕ) (p : Path) → all_ident p ≡ true → Ordered (λ c d. c.place.file ≡ d.place.file → ⊥) (scopes s p)
unfolding scopes all_ident
scopes-apart s p h = ordered-mono (λ c d m k. earlier-apart s c d) (from-ordered s [] p refl h)

-- and they stand in "Order: fewest package components, then file order."
pub scopes-ordered : (s : List ℕ) (p : Path) → all_ident p ≡ true → Ordered (Earlier s) (scopes s p)
unfolding scopes all_ident
scopes-ordered s p h = from-ordered s [] p refl h

-- 01, Changed shape: "strings paths compared by component". Of a path of identifiers the text is compared, and that is the same.
pub same-components : (t : List ℕ) (p : Path) → all_ident p ≡ true → same_bytes (spell p) t ≡ true → components t ≡ p
same-components = files.same-components

pub components-same : (t : List ℕ) (p : Path) → components t ≡ p → same_bytes (spell p) t ≡ true
components-same = files.components-same
