-- Where the extension lies which a look-up finds: every place is one of the sheet, and the index of its file is at most the sheet's length.
-- They are for whoever reads the sheet at what was found: from `Ordered` and `Places` the `places_laws` of `scope` take what is asked of a
-- span.
--
--   FoundLies s f <-> the places of the extension that was found are of s, and its file is counted no further than s is long
--
-- Assumes nothing.
use Rattle.std.specs.Prelude.{◌≡◌, refl, List, [], ◌∷◌, ℕ, ◌≤◌, length, Some, Ok, Result}
use Rattle.basis.specs.Kit.{sym, ap, ◌∙◌}
use Rattle.basis.proofs.Never.{never}
use Rattle.path.specs.Path.{Name, Path, parent, last}
use Rattle.candidates.specs.Candidates.{candidates}
use Rattle.sheet.specs.Table.{extension_tag}
use Rattle.sheet.proofs.PlaceLaws.{Places}
use Rattle.search.specs.declared.extension.Found.{Found}
use Rattle.search.specs.declared.extension.Candidate.{Candidate}
use Rattle.search.specs.declared.extension.Compared.{Compared}
use Rattle.search.specs.declared.extension.Compared.TheVariants.{Extends, ExtendsOther}
use Rattle.scope.specs.Scope.{Scope, declaration_named}
use Rattle.search.specs.Lookup.{found_in, found_at, tried, find_extension_by_path, ext_resolve_field}
use Rattle.basis.proofs.FirstLaws.{given_holds, every-all, first-some-holds}
use Rattle.named.proofs.DeclaredPlaces.{Ordered, places-ordered, declaration-lies}
use Rattle.scopes.proofs.Standing.{Standing, scopes-stand}
use Rattle.search.proofs.TriedLaws.{by-path-some, compared-extends, compared-other}
use Rattle.reply.specs.declared.Refusal.{Refusal}

-- ---- an extension that was found
pub record FoundLies (s : List ℕ) (f : Found) : Type 0 where
  pub places : Places (length s) f.declaration
  pub counted : f.file ≤ length s

module _ (s : List ℕ) (f : Found) where
  found-in-lies : (n : Name) (c : Scope) → Standing s c → found_in s n c ≡ Some f → FoundLies s f
  found-in-lies n c k =
      given_holds (declaration_named extension_tag s n c) (λ d. Some (record { file = c.place.file; declaration = d })) f (FoundLies s f)
      λ d p q.
      let u : f ≡ record { file = c.place.file; declaration = d } = cc in
      let p' = ap (declaration_named extension_tag s n) (sym k.held) ∙ p in
      rw u record { places = declaration-lies s c.place k.lies extension_tag _ d p'; counted = k.counted }

  pub found-abs-lies : (p : Path) → found_at s p ≡ Some f → FoundLies s f
  unfolding found_at
  found-abs-lies [] q = never cc
  found-abs-lies (n ∷ ns) q =
      first-some-holds (Standing s) (found_in s (last (n ∷ ns))) f (FoundLies s f) (found-in-lies (last (n ∷ ns)))
      (scopes-stand s (parent (n ∷ ns))) q

  pub found-lies : (scope name : List ℕ) → find_extension_by_path s scope name ≡ Ok f → FoundLies s f
  found-lies scope name q =
      first-some-holds (λ p. found_at s p ≡ Some f → FoundLies s f) (found_at s) f (FoundLies s f)
      (λ p k q. k q) (every-all (λ p. found_at s p ≡ Some f → FoundLies s f) found-abs-lies (candidates scope name))
      (by-path-some s scope name f q)

-- what `try_candidates` answers
module _ (s scope name : List ℕ) (r : Result Candidate Refusal) (q : r ≡ tried s scope name) (c : Candidate) (g : r ≡ Ok c) where
  pub tried-lies : FoundLies s c.found
  unfolding find_extension_by_path
  tried-lies = found-lies s c.found scope name (rw (← q, g))

  pub tried-places : Places (length s) c.found.declaration
  tried-places = tried-lies.places

  pub tried-ordered : Ordered c.found.declaration
  tried-ordered = places-ordered tried-places

-- what `ext_resolve_field_ext` answers, of the message asked for or of another
module _ (s scope m name : List ℕ) (r : Result Compared Refusal) (q : r ≡ ext_resolve_field s scope m name) (c : Candidate) where
  pub extends-lies : r ≡ Ok (Extends c) → FoundLies s c.found
  unfolding ext_resolve_field
  extends-lies g = tried-lies s scope name _ refl c (compared-extends s m c (tried s scope name) (sym q ∙ g))

  pub other-lies : r ≡ Ok (ExtendsOther c) → FoundLies s c.found
  unfolding ext_resolve_field
  other-lies g = tried-lies s scope name _ refl c (compared-other s m c (tried s scope name) (sym q ∙ g))
