-- Closed cases of the premise under which what is written is listed back: a sheet that declares each number once, and one that does not.
-- Assumes nothing.
use Rattle.std.specs.Prelude.{◌≡◌, refl, true, List, [], ◌∷◌, ◌++◌, ℕ, Ok}
use Rattle.basis.specs.Kit.{sym, ap, ◌∙◌}
use Rattle.basis.specs.Among.{here}
use Rattle.basis.proofs.Kit.{arith}
use Rattle.basis.proofs.AmongLaws.{among_one}
use Rattle.basis.proofs.FirstLaws.{Every, none_of, one_of}
use mathlib.Core.Logic.{◌⊎◌, inl, inr}
use Rattle.octets.specs.Octets.{big_at, same_bytes}
use Rattle.octets.specs.Ascii.{ascii}
use Rattle.path.specs.Path.{on_first, split, components, spell}
use Rattle.field.specs.Field.{field_at}
use Rattle.field.specs.Leaf.{span, leaf_at}
use Rattle.field.specs.Walk.{walk_by}
use Rattle.sheet.specs.declared.declaration.Declaration.{Declaration}
use Rattle.sheet.specs.Declaration.{has_type_path, type_path_at, shape_at, extension_at, message_field_at, value_at}
use Rattle.sheet.specs.Tree.{File, value_in, item_in, items_in, file_in, tree_of}
use Rattle.scope.specs.Scope.{holding}
use Rattle.scopes.specs.Scopes.{scopes}
use Rattle.sheet.proofs.Sheets.{file, message, field, extension}
use Rattle.fullname.specs.FullName.{messages_at}
use Rattle.lookups.specs.Lookups.{Message, walking}
use Rattle.readback.specs.Once.{DeclaredAt, as-field, as-extension, Once}
use Rattle.promises.proofs.Declarations.{Each, inside-each, fields-each, found-holds}

-- a message F with the field a = 1, and an extension x of it
abbrev sheet : ℕ → List ℕ
sheet n = file "o" (message "F" (field "a" 1) ++ extension "x" "o.F" n)

abbrev a : Declaration
a = record { name = span 20 21; extendee = span 0 0; shape = record { number = 1; typ = 13; label = 1; path = span 0 0 } }

abbrev x : ℕ → Declaration
x n = record { name = span 42 43; extendee = span 46 49; shape = record { number = n; typ = 13; label = 1; path = span 0 0 } }

-- x = 2
abbrev Is : Declaration → Type 0
Is d = (d ≡ a) ⊎ (d ≡ x 2)

abbrev EachFile : List File → Type 0
EachFile [] = Unit {0}
EachFile (f ∷ fs) = Each Is f.items × EachFile fs

each-file : (fs : List File) → EachFile fs → Every (λ f. Each Is f.items) fs
each-file [] h = none_of
each-file (f ∷ fs) h = one_of h.0 (each-file fs h.1)

files : Every (λ f. Each Is f.items) (tree_of (sheet 2))
unfolding tree_of file_in items_in item_in value_in extension_at message_field_at value_at shape_at type_path_at has_type_path walk_by leaf_at field_at big_at
files = each-file (tree_of (sheet 2)) (((inl refl, tt), (inr refl, tt)), tt)

declared-is : (m : Message) → (walking (sheet 2)).message m.name ≡ Ok m.place → (d : Declaration) → DeclaredAt (sheet 2) m d → Is d
unfolding tree_of file_in items_in item_in value_in extension_at message_field_at value_at shape_at type_path_at has_type_path walk_by leaf_at field_at big_at
declared-is m at d (as-field k) =
    let all = found-holds (sheet 2) (Each Is) (inside-each Is) files m.name m.place at in
    fields-each Is (holding (sheet 2) m.place).items all d k
declared-is m at d (as-extension k e) = inr (among_one k)

same : (d e : Declaration) → Is d → Is e → d.shape.number ≡ e.shape.number → d ≡ e
same d e (inl p) (inl q) n = p ∙ sym q
same d e (inr p) (inr q) n = p ∙ sym q
same d e (inl p) (inr q) n = absurd (omega (arith, ap (λ y. y.shape.number) p, ap (λ y. y.shape.number) q))
same d e (inr p) (inl q) n = absurd (omega (arith, ap (λ y. y.shape.number) p, ap (λ y. y.shape.number) q))

each-once : Once (walking (sheet 2)) (sheet 2)
each-once m at d e k l = same d e (declared-is m at d k) (declared-is m at e l)

-- x = 1: a and x have one number
not-once : Once (walking (sheet 1)) (sheet 1) → ⊥
unfolding tree_of file_in items_in item_in value_in extension_at message_field_at value_at shape_at type_path_at has_type_path walk_by leaf_at field_at big_at
    same_bytes on_first split components spell scopes messages_at
not-once once =
    let m : Message = record { name = ascii "o.F"; place = record { file = 0; message = true; body = span 14 36; left = 15 } } in
    let one : a ≡ x 1 = once m refl a (x 1) (as-field (here {xs = []})) (as-extension (here {xs = []}) refl) refl in
    omega (arith, ap (λ y. y.name.from) one)
