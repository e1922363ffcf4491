-- What a fine sheet declares: the file it stands in, the path that is its full name, and, where no two share a full name, the scope at the
-- path before its last name that declares it.
--
--   Located s b <-> b stands in a file; the package and the names that lead to it in the file are the components of its full name
--
-- Assumes nothing.
use Rattle.std.specs.Prelude.{◌≡◌, refl, true, ◌&&◌, List, [], ◌∷◌, ◌++◌, ℕ, zero, suc}
use Rattle.basis.specs.Kit.{sym, ap, ◌∙◌}
use Rattle.basis.proofs.Kit.{arith}
use mathlib.Core.Option as option
use lib.ListN.{get_elem?}
use mathlib.Core.Bool.{and-eq-true_iff}
use mathlib.Core.List.{append_assoc}
use Rattle.basis.proofs.Never.{never}
use Rattle.basis.specs.Among.{Among}
use Rattle.field.specs.Leaf.{text}
use Rattle.path.specs.Path.{Name, Path, components, all_ident, is_rel_or_empty}
use Rattle.path.proofs.PathLaws.{components-spell, idents-append, rel-idents}
use Rattle.sheet.specs.Tree.{File, tree_of}
use Rattle.scope.specs.Scope.{Scope, file_scope}
use Rattle.scopes.specs.Scopes.{scopes}
use Rattle.search.proofs.ScopeOrder.{gives-from}
use Rattle.messageform.specs.Fine.{good_items}
use Rattle.sheetform.specs.Fine.{good_files}
use Rattle.sheetform.specs.Form.{judge_sheet}
use Rattle.sheetform.proofs.FineLaws.{fine-good}
use Rattle.names.specs.Names.{message, Named, file_front, every_declared}
use Rattle.finds.proofs.Spelling.{front_of, full-spell}
use Rattle.finds.proofs.Reach.{Holds, message-of, Reach, reach-under, reach-last}
use Rattle.finds.proofs.Follows.{Alone, reach-follow}
use Rattle.finds.proofs.Files.{Filed, stands}
use Rattle.finds.proofs.Declared.{filed-declared, Single, single-unique}
use Rattle.finds.proofs.Placed.{Placed, placed}
use Rattle.reply.specs.Verdicts.{fine}

-- the message that a scope holds is reached by one name more
reach-held : (s : List ℕ) {ns : Path} {c d : Scope} {n : Name} (m : Scope) → Reach s ns c d → Holds s d n (message m)
    → Reach s (ns ++ n ∷ []) c m × (m.place.message ≡ true)
reach-held s {n = n} m r (message-of l k e) = (reach-last s n r l k e, refl)

module _ (s : List ℕ) where
  good-file : (fs : List File) (k : ℕ) (f : File) → good_files s fs ≡ true → get_elem? fs k ≡ option.some f
      → (is_rel_or_empty (text s f.package_name) ≡ true) × (good_items s f.items ≡ true)
  good-file [] k f h e = never cc
  good-file (g ∷ fs) zero f h e =
      let q : g ≡ f = cc in
      let x = (and-eq-true_iff (is_rel_or_empty (text s g.package_name) && good_items s g.items) (good_files s fs)).0 h in
      rw q at ((and-eq-true_iff (is_rel_or_empty (text s g.package_name)) (good_items s g.items)).0 x.0)
  good-file (g ∷ fs) (suc k) f h e =
      good-file fs k f ((and-eq-true_iff (is_rel_or_empty (text s g.package_name) && good_items s g.items) (good_files s fs)).0 h).1 e

  pub record Located (b : Named) : Type 0 where
    pub at : ℕ
    pub file : File
    pub is : get_elem? (tree_of s) at ≡ option.some file
    pub place : Placed s (file_front (text s file.package_name)) (file_scope at file) b
    pub path : components b.name ≡ components (text s file.package_name) ++ (place.names ++ place.own ∷ [])
    pub idents : all_ident (components b.name) ≡ true
    pub before-idents : all_ident (components (text s file.package_name) ++ place.names) ≡ true

  module _ (fine : judge_sheet s ≡ fine) where
    filed-located : (b : Named) (at : ℕ) (f : File) → get_elem? (tree_of s) at ≡ option.some f → Filed s at f b → Located b
    filed-located b at f e m =
        let g = good-file (tree_of s) at f (fine-good s fine) e in
        let t = text s f.package_name in
        let r = placed s (file_front t) (file_scope at f) g.1 b m in
        let all = idents-append (components t) (r.names ++ r.own ∷ []) (rel-idents t g.0) r.idents in
        let p : components b.name ≡ components t ++ (r.names ++ r.own ∷ []) =
        ap components (r.spelled ∙ full-spell t r.names r.own) ∙ components-spell (components t ++ (r.names ++ r.own ∷ [])) all in
        record {
          at = at;
          file = f;
          is = e;
          place = r;
          path = p;
          idents = rw p all;
          before-idents = idents-append (components t) r.names (rel-idents t g.0) r.names-idents;
        }

    pub located : (b : Named) → Among b (every_declared s) → Located b
    unfolding every_declared
    located b m =
        let r = stands s 0 (tree_of s) b m in
        let q : r.k ≡ r.at = omega (arith, r.counted) in
        filed-located b r.at r.file (rw q at r.is) r.among

    module _ (single : Single s) (b : Named) (r : Located b) where
      abbrev front : List ℕ
      front = file_front (text s r.file.package_name)

      abbrev start : Scope
      start = file_scope r.at r.file

      abbrev pub before : Path
      before = components (text s r.file.package_name) ++ r.place.names

      file-alone : Alone s front start
      file-alone x y m j e =
          single-unique s single x y (filed-declared s r.at r.file r.is x m) (filed-declared s r.at r.file r.is y j) e

      pub holder-alone : Alone s (front_of front r.place.names) r.place.holder
      holder-alone x y m j e =
          file-alone x y (reach-under s front r.place.reach x m) (reach-under s front r.place.reach y j) e

      pub path-before : components b.name ≡ before ++ r.place.own ∷ []
      path-before = r.path ∙ sym (append_assoc (components (text s r.file.package_name)) r.place.names (r.place.own ∷ []))

      reached : (p ns : Path) (c : Scope) → components (text s r.file.package_name) ++ ns ≡ p → Reach s ns start c → Among c (scopes s p)
      unfolding scopes
      reached p ns c e k =
          gives-from s p r.at c
          (record { file = r.file; is = r.is; rest = ns; leads = e; follows = reach-follow s front file-alone k })

      pub holder-at : Among r.place.holder (scopes s before)
      holder-at = reached before r.place.names r.place.holder refl r.place.reach

      pub message-at : (c : Scope) → b.what ≡ message c → Among c (scopes s (components b.name)) × (c.place.message ≡ true)
      message-at c e =
          let k = reach-held s c r.place.reach (rw e at r.place.holds) in
          (reached (components b.name) (r.place.names ++ r.place.own ∷ []) c (sym r.path) k.0, k.1)
