-- Where that lies which a scope or the sheet declares: name, extendee and type path of a declaration are places of the sheet. They are for
-- whoever reads the sheet at what was found. Of each look-up one law says `Ordered d` and one `Places (length s) d`, and `places_laws` take
-- from these what is asked of a span.
--
--   Ordered d <-> name, extendee and type path of the declaration end no earlier than they start
--
-- Assumes nothing.
use Rattle.std.specs.Prelude.{◌≡◌, Bool, true, false, List, [], ℕ, ◌≤◌, eqb, length, Some, Option}
use Rattle.basis.specs.Kit.{sym, ◌∙◌}
use Rattle.sheet.specs.declared.declaration.Declaration.{Declaration}
use Rattle.sheet.specs.Table.{extension_tag, field_tag}
use Rattle.sheet.specs.Tree.{Items, File, tree_of}
use Rattle.sheet.specs.Members.{extensions_of, fields_of, declarations_of, every_extension_of, every_extension}
use Rattle.sheet.proofs.PlaceLaws.{Places, extension-places, field-places}
use Rattle.sheet.proofs.LyingLaws.{Lying, lying_none, lying-message, lying-extension, lying-enum, lying-field, items_lie, places-within}
use Rattle.sheet.proofs.LyingLaws.{FileLies, Filed, filed-none, filed-one, tree-lies}
use Rattle.basis.specs.First.{only_if, first}
use Rattle.basis.proofs.FirstLaws.{Every, none_of, one_of, first_holds, every_append}
use Rattle.scope.specs.declared.lookup.LookupScope.{LookupScope}
use Rattle.scope.specs.Scope.{holding, declaration_named}
use Rattle.scope.specs.inner.Answers.{InSheet, declared}
use Rattle.scope.specs.inner.Steps.{declaration_at}
use Rattle.scope.proofs.Answers.{declared-some}
use Rattle.named.proofs.NamedLaws.{declaration-cases}

-- ---- what is asked of a span. That it is in order is said with no end, so that a search finds it whatever the sheet
pub record Ordered (d : Declaration) : Type 0 where
  pub name : d.name.from ≤ d.name.to
  pub extendee : d.extendee.from ≤ d.extendee.to
  pub path : d.shape.path.from ≤ d.shape.path.to

pub places-ordered : {end : ℕ} {d : Declaration} → Places end d → Ordered d
places-ordered k = record { name = k.name.ordered; extendee = k.extendee.ordered; path = k.path.ordered }

module _ (d : Declaration) (k : Ordered d) where
  pub name-ordered : d.name.from ≤ d.name.to
  name-ordered = k.name

  pub extendee-ordered : d.extendee.from ≤ d.extendee.to
  extendee-ordered = k.extendee

  pub path-ordered : d.shape.path.from ≤ d.shape.path.to
  path-ordered = k.path

module _ (end : ℕ) (d : Declaration) (k : Places end d) where
  pub name-within : d.name.to ≤ end
  name-within = k.name.inside

  pub extendee-within : d.extendee.to ≤ end
  extendee-within = k.extendee.inside

  pub path-within : d.shape.path.to ≤ end
  path-within = k.path.inside

pub ruleset places_laws = (name-ordered, name-within, extendee-ordered, extendee-within, path-ordered, path-within)

-- ---- the declaration that one field is
module _ (k : ℕ) (s : List ℕ) (t a e : ℕ) (r : Option Declaration) (q : r ≡ declaration_at k s t a e) (d : Declaration) (g : r ≡ Some d) where
  declaration-at-lies : Places e d
  declaration-at-lies = declaration-cases s a e d (Places e d) k t (extension-places s a e d) (field-places s a e d) (sym g ∙ q)

  pub declaration-at-ordered : Ordered d
  declaration-at-ordered = places-ordered declaration-at-lies

  pub declaration-at-places : e ≤ length s → Places (length s) d
  declaration-at-places = places-within e (length s) d declaration-at-lies

-- ---- what items and files declare
module _ (s : List ℕ) where
  extensions-lie : {i : Items} → Lying s i → Every (Places (length s)) (extensions_of i)
  extensions-lie lying_none = none_of
  extensions-lie (lying-message b i r) = extensions-lie r
  extensions-lie (lying-extension d r) = one_of d (extensions-lie r)
  extensions-lie (lying-enum b r) = extensions-lie r
  extensions-lie (lying-field d r) = extensions-lie r

  fields_lie : {i : Items} → Lying s i → Every (Places (length s)) (fields_of i)
  fields_lie lying_none = none_of
  fields_lie (lying-message b i r) = fields_lie r
  fields_lie (lying-extension d r) = fields_lie r
  fields_lie (lying-enum b r) = fields_lie r
  fields_lie (lying-field d r) = one_of d (fields_lie r)

  declarations-lie : (k : ℕ) {i : Items} → Lying s i → Every (Places (length s)) (declarations_of k i)
  declarations-lie k {i} l = go (eqb k extension_tag) (eqb k field_tag)
    where
      go : (b b' : Bool) → Every (Places (length s)) (only_if b (extensions_of i) (only_if b' (fields_of i) []))
      go true b' = extensions-lie l
      go false true = fields_lie l
      go false false = none_of

  every-extension-lies : {i : Items} → Lying s i → Every (Places (length s)) (every_extension_of i)
  every-extension-lies lying_none = none_of
  every-extension-lies (lying-message b i r) = every_append (Places (length s)) (every-extension-lies i) (every-extension-lies r)
  every-extension-lies (lying-extension d r) = one_of d (every-extension-lies r)
  every-extension-lies (lying-enum b r) = every-extension-lies r
  every-extension-lies (lying-field d r) = every-extension-lies r

  file-lying : (f : File) → FileLies s f → Lying s f.items
  file-lying f k = rw k.held (items_lie _ s _ _ k.within)

  every-file-lies : {fs : List File} → Filed s fs → Every (Places (length s)) (every_extension fs)
  every-file-lies filed-none = none_of
  every-file-lies (filed-one {f = f} k t) = every_append (Places (length s)) (every-extension-lies (file-lying f k)) (every-file-lies t)

  -- an extension of the sheet, whatever the test
  pub extension-lies : (good : Declaration → Bool) (d : Declaration) → first good (every_extension (tree_of s)) ≡ Some d → Places (length s) d
  extension-lies good = first_holds (Places (length s)) good (every-file-lies (tree-lies s))

-- ---- a declaration of a scope, whatever the test
module _ (s : List ℕ) (p : LookupScope) (l : InSheet s p) where
  pub declaration-lies : (k : ℕ) (good : Declaration → Bool) (d : Declaration) → first good (declarations_of k (holding s p).items) ≡ Some d
      → Places (length s) d
  declaration-lies k good =
      first_holds (Places (length s)) good
      (declarations-lie s k (items_lie p.left s p.body.from p.body.to l.within))

-- what `declaration_named` answers
module _ (s : List ℕ) (p : LookupScope) (l : InSheet s p) (k : ℕ) (n : List ℕ)
    (r : Option Declaration) (q : r ≡ declared (declaration_named k s n (holding s p))) (d : Declaration) (g : r ≡ Some d) where
  pub named-places : Places (length s) d
  named-places = declaration-lies s p l k _ d (declared-some r (declaration_named k s n (holding s p)) q d g)

  pub named-ordered : Ordered d
  named-ordered = places-ordered named-places
