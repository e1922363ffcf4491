-- What the option steps find in a fine sheet: a declaration whose number is in range, and leads to it again where each number is declared
-- once. The statement stands at the end.
--
--   Usable L s m d <-> the number of the declaration d is in range, and, where each is declared once, leads to d at the message m
--       Steady L s <-> every step in a message that L finds comes to a usable declaration, and enum values are of 32 bits
--
-- Assumes nothing.
use Rattle.std.specs.Prelude.{◌≡◌, refl, Bool, true, ◌&&◌, List, [], ◌∷◌, ◌++◌, ℕ, ◌+◌, ◌^◌, ◌≤◌, ◌<◌, leb, Some, Ok}
use Rattle.basis.specs.First.{first}
use Rattle.basis.specs.Among.{Among, here, there}
use Rattle.basis.proofs.FirstLaws.{Every, none_of, one_of, every_append, every-onto, every-collect}
use Rattle.basis.proofs.AmongLaws.{among-nil, among-append-left, among-append-right, behind-among}
use Rattle.basis.proofs.AmongFirsts.{given-some, first-some}
use mathlib.Core.Bool.{and-eq-true_iff}
use borrow.Author.Tests.{leb-true}
use Rattle.limits.specs.Figures.{most_number, most_type, most_label}
use Rattle.octets.proofs.Bytes.{Bytes}
use Rattle.ident.specs.Ident.{is_ident}
use Rattle.path.specs.Path.{Path, parent, spell, components, is_rel_path, is_rel_or_empty}
use Rattle.field.specs.declared.Span.{Span}
use Rattle.field.specs.Leaf.{text, is_text}
use Rattle.sheet.specs.declared.declaration.Declaration.{Declaration}
use Rattle.sheet.specs.declared.declaration.Value.{Value}
use Rattle.sheet.specs.Tree.{Items, none, message, extension, enumeration, field, File, tree_of}
use Rattle.sheet.specs.Members.{messages_of, extensions_of, fields_of, every_extension_of, every_extension}
use Rattle.sheet.specs.Members as members
use Rattle.declform.specs.Declarations.{in_range, good_type_path, good_shape, good_field}
use Rattle.messageform.specs.Fine.{good_values, good_items}
use Rattle.sheetform.specs.Form.{judge_sheet}
use Rattle.sheetform.specs.Fine.{good_files}
use Rattle.sheetform.proofs.FineLaws.{fine-good}
use Rattle.scope.specs.declared.lookup.LookupScope.{LookupScope}
use Rattle.scope.specs.Scope.{Scope, holding, file_scope, message_scope, down}
use Rattle.scopes.specs.Scopes.{follow, scope_in, scopes_in, scopes_from, scopes}
use Rattle.scopes.proofs.ScopeFiles.{only-some}
use Rattle.fullname.specs.FullName.{message_of, messages_at}
use Rattle.fullname.proofs.LiesLaws.{looked-up-is}
use Rattle.search.specs.declared.extension.Candidate.{Candidate}
use Rattle.search.specs.declared.extension.Compared.TheVariants.{Extends}
use Rattle.search.proofs.Theorems.{tried-answers, same-tried, same-extendee}
use Rattle.lookups.specs.Lookups.{Lookups, Message, walking, field_named, value_in}
use Rattle.entries.specs.Item.{declared}
use Rattle.readback.specs.Once.{as-field, as-extension, Once}
use Rattle.readback.proofs.OnceLaws.{declared-once}
use Rattle.promises.proofs.SizedLaws.{value-small}
use Rattle.reply.specs.Verdicts.{fine}

pub record Usable (L : Lookups) (s : List ℕ) (m : Message) (d : Declaration) : Type 0 where
  pub declares : Once L s → declared s m d.shape.number ≡ Some d
  pub range : (1 ≤ d.shape.number) × (d.shape.number ≤ most_number)

pub record Steady (L : Lookups) (s : List ℕ) : Type 0 where
  pub field : (m : Message) → L.message m.name ≡ Ok m.place → (n : List ℕ) (d : Declaration) → field_named s n m.place ≡ Some d
      → Usable L s m d
  pub extension : (m : Message) → L.message m.name ≡ Ok m.place → (scope n : List ℕ) (c : Candidate)
      → L.extension scope m.name n ≡ Ok (Extends c) → Usable L s m c.found.declaration
  pub value : (n : List ℕ) (vs : Span) (v : Value) → value_in s n vs ≡ Some v → v.number < 2 ^ 32

every-among : {A : Type 0} {P : A → Type 0} {x : A} {xs : List A} → Every P xs → Among x xs → P x
every-among {A = A} {P = P} none_of x4 = elim x4 [ ]
every-among (one_of h t) here = h
every-among (one_of h t) (there m) = every-among t m

both_true : (a b : Bool) → (a && b) ≡ true → (a ≡ true) × (b ≡ true)
both_true a b h = (and-eq-true_iff a b).0 h

-- ---- what holds of the items of each file and of a message wherever it holds of what holds the message, holds of all scopes
module _ (s : List ℕ) (P : Items → Type 0)
    (inner : (i : Items) → P i → (m : members.Message) → Among m (messages_of i) → P m.inside) where
  down_holds : (n : List ℕ) (c d : Scope) → P c.items → down s n c ≡ Some d → P d.items
  down_holds n c d h q =
      let named : members.Message → Bool = λ m. is_text s n m.name in
      let (m, p, e) = given-some (first named (messages_of c.items)) (λ m. Some (message_scope c m)) d q in
      let same : d ≡ message_scope c m = cc in
      rw same (inner c.items h m (behind-among (first-some named (messages_of c.items) p).behind))

  follow-holds : (ns : Path) (c d : Scope) → P c.items → follow s ns c ≡ Some d → P d.items
  follow-holds [] c d h q = let same : d ≡ c = cc in rw same h
  follow-holds (n ∷ ns) c d h q =
      let (e, p, g) = given-some (down s n c) (follow s ns) d q in
      follow-holds ns e d (down_holds n c e h p) g

  scopes-in-hold : (t : List ℕ) (ns : Path) (i : ℕ) {fs : List File} → Every (λ f. P f.items) fs
      → Every (λ c. P c.items) (scopes_in s t ns i fs)
  scopes-in-hold t ns i none_of = none_of
  scopes-in-hold t ns i (one_of {x = f} h k) =
      every-onto (λ c. P c.items) (scope_in s t ns i f)
      (λ c q. follow-holds ns (file_scope i f) c h (only-some (is_text s t f.package_name) (follow s ns (file_scope i f)) c q).1)
      (scopes-in-hold t ns (i + 1) k)

  module _ (files : Every (λ f. P f.items) (tree_of s)) where
    scopes-from-hold : (front ns : Path) → Every (λ c. P c.items) (scopes_from s front ns)
    scopes-from-hold front [] = scopes-in-hold (spell front) [] 0 files
    scopes-from-hold front (n ∷ ns) =
        every_append (λ c. P c.items) (scopes-in-hold (spell front) (n ∷ ns) 0 files) (scopes-from-hold (front ++ n ∷ []) ns)

    scopes-hold : (p : Path) → Every (λ c. P c.items) (scopes s p)
    unfolding scopes
    scopes-hold p = scopes-from-hold [] p

    messages-hold : (p : Path) → Every (λ c. P c.items) (messages_at s p)
    unfolding messages_at
    messages-hold p =
        every-collect (λ c. P c.items) message_of (λ c. P c.items)
        (λ c h d q. let u : Some c ≡ Some d = (only-some c.place.message (Some c) d q).1 in let v : d ≡ c = cc in rw v h)
        (scopes-hold p)

    -- so of what stands where a message was found
    pub found-holds : (path : List ℕ) (p : LookupScope) → (walking s).message path ≡ Ok p → P (holding s p).items
    found-holds path p q =
        every-among (rw (looked-up-is s (components path) ((walking s).message path) refl p q) at (messages-hold (components path))) here

-- ---- what holds of each declaration among the items, at every depth
module _ (P : Declaration → Type 0) where
  abbrev pub Each : Items → Type 0
  Each none = Unit {0}
  Each (message n b i r) = Each i × Each r
  Each (extension d r) = P d × Each r
  Each (enumeration n b vs r) = Each r
  Each (field d r) = P d × Each r

  pub inside-each : (i : Items) → Each i → (m : members.Message) → Among m (messages_of i) → Each m.inside
  inside-each none h m k = among-nil k
  inside-each (message n b i r) h m here = h.0
  inside-each (message n b i r) h m (there k) = inside-each r h.1 m k
  inside-each (extension d r) h m k = inside-each r h.1 m k
  inside-each (enumeration n b vs r) h m k = inside-each r h m k
  inside-each (field d r) h m k = inside-each r h.1 m k

  pub fields-each : (i : Items) → Each i → (d : Declaration) → Among d (fields_of i) → P d
  fields-each none h d k = among-nil k
  fields-each (message n b i r) h d k = fields-each r h.1 d k
  fields-each (extension x r) h d k = fields-each r h.1 d k
  fields-each (enumeration n b vs r) h d k = fields-each r h d k
  fields-each (field x r) h d here = h.0
  fields-each (field x r) h d (there k) = fields-each r h.1 d k

  extensions-each : (i : Items) → Each i → (d : Declaration) → Among d (extensions_of i) → P d
  extensions-each none h d k = among-nil k
  extensions-each (message n b i r) h d k = extensions-each r h.1 d k
  extensions-each (extension x r) h d here = h.0
  extensions-each (extension x r) h d (there k) = extensions-each r h.1 d k
  extensions-each (enumeration n b vs r) h d k = extensions-each r h d k
  extensions-each (field x r) h d k = extensions-each r h.1 d k

-- ---- the numbers that a fine sheet declares are in range
abbrev InRange : Declaration → Type 0
InRange d = (1 ≤ d.shape.number) × (d.shape.number ≤ most_number)

module _ (s : List ℕ) where
  good-range : (d : Declaration) → good_field s d ≡ true → InRange d
  unfolding good_field good_shape
  good-range d h =
      let k = d.shape.number in
      let a = in_range k most_number in
      let b = in_range d.shape.typ most_type in
      let c = in_range d.shape.label most_label in
      let path = good_type_path s d.shape in
      let shape = (both_true (is_ident (text s d.name)) (a && b && c && path) h).1 in
      let number = (both_true a b (both_true (a && b) c (both_true (a && b && c) path shape).0).0).0 in
      let ends = both_true (leb 1 k) (leb k most_number) number in
      (leb-true 1 k ends.0, leb-true k most_number ends.1)

  good-ranged : (i : Items) → good_items s i ≡ true → Each InRange i
  good-ranged none h = tt
  good-ranged (message n b i r) h =
      let y = both_true (is_ident (text s n) && good_items s i) (good_items s r) h in
      (good-ranged i (both_true (is_ident (text s n)) (good_items s i) y.0).1, good-ranged r y.1)
  good-ranged (extension d r) h =
      let y = both_true (is_rel_path (text s d.extendee) && good_field s d) (good_items s r) h in
      (good-range d (both_true (is_rel_path (text s d.extendee)) (good_field s d) y.0).1, good-ranged r y.1)
  good-ranged (enumeration n b vs r) h =
      good-ranged r (both_true (is_ident (text s n) && good_values s vs) (good_items s r) h).1
  good-ranged (field d r) h = let y = both_true (good_field s d) (good_items s r) h in (good-range d y.0, good-ranged r y.1)

  files-ranged : (fs : List File) → good_files s fs ≡ true → Every (λ f. Each InRange f.items) fs
  files-ranged [] h = none_of
  files-ranged (f ∷ fs) h =
      let name = is_rel_or_empty (text s f.package_name) in
      let y = both_true (name && good_items s f.items) (good_files s fs) h in
      one_of (good-ranged f.items (both_true name (good_items s f.items) y.0).1) (files-ranged fs y.1)

-- ---- the extensions of a scope are extensions of the sheet
abbrev Held : List Declaration → Items → Type 0
Held all i = (d : Declaration) → Among d (every_extension_of i) → Among d all

inside-held : (all : List Declaration) (i : Items) → Held all i → (m : members.Message) → Among m (messages_of i) → Held all m.inside
inside-held all none h m k = among-nil k
inside-held all (message n b i r) h m here = λ d j. h d (among-append-left (every_extension_of r) j)
inside-held all (message n b i r) h m (there k) = inside-held all r (λ d j. h d (among-append-right (every_extension_of i) j)) m k
inside-held all (extension x r) h m k = inside-held all r (λ d j. h d (there j)) m k
inside-held all (enumeration n b vs r) h m k = inside-held all r h m k
inside-held all (field x r) h m k = inside-held all r h m k

extension-every : (i : Items) (d : Declaration) → Among d (extensions_of i) → Among d (every_extension_of i)
extension-every none d k = k
extension-every (message n b i r) d k = among-append-right (every_extension_of i) (extension-every r d k)
extension-every (extension x r) d here = here
extension-every (extension x r) d (there k) = there (extension-every r d k)
extension-every (enumeration n b vs r) d k = extension-every r d k
extension-every (field x r) d k = extension-every r d k

files-held : (all : List Declaration) (fs : List File) → ((d : Declaration) → Among d (every_extension fs) → Among d all)
    → Every (λ f. Held all f.items) fs
files-held all [] h = none_of
files-held all (f ∷ fs) h =
    one_of (λ d k. h d (among-append-left (every_extension fs) k))
    (files-held all fs (λ d k. h d (among-append-right (every_extension_of f.items) k)))

-- ==== the statement
module _ (s : List ℕ) (fine : judge_sheet s ≡ fine) where
  ranged : Every (λ f. Each InRange f.items) (tree_of s)
  ranged = files-ranged s (tree_of s) (fine-good s fine)

  module _ (m : Message) (at : (walking s).message m.name ≡ Ok m.place) where
    field-usable : (n : List ℕ) (d : Declaration) → field_named s n m.place ≡ Some d → Usable (walking s) s m d
    field-usable n d q =
        let items = (holding s m.place).items in
        let k = behind-among (first-some (λ x. is_text s n x.name) (fields_of items) q).behind in
        record {
          declares = λ once. declared-once (walking s) s once m at d (as-field k);
          range = fields-each InRange items (found-holds s (Each InRange) (inside-each InRange) ranged m.name m.place at) d k;
        }

    extension-usable : (scope n : List ℕ) (c : Candidate) → (walking s).extension scope m.name n ≡ Ok (Extends c)
        → Usable (walking s) s m c.found.declaration
    extension-usable scope n c q =
        let d = c.found.declaration in
        let a = (tried-answers s scope n c (same-tried s scope m.name n c q)).answers in
        let items = a.holder.items in
        let k = a.declares.extension in
        let p = parent a.path in
        let all = every_extension (tree_of s) in
        let held : Held all items =
        every-among (scopes-hold s (Held all) (inside-held all) (files-held all (tree_of s) λ d k. k) p) a.declares.scope in
        record {
          declares = λ once. declared-once (walking s) s once m at d
              (as-extension (held d (extension-every items d k)) (same-extendee s scope m.name n c q));
          range = extensions-each InRange items
              (every-among (scopes-hold s (Each InRange) (inside-each InRange) ranged p) a.declares.scope) d k;
        }

  pub walking-steady : Bytes s → Steady (walking s) s
  walking-steady bytes = record { field = field-usable; extension = extension-usable; value = value-small s bytes }
