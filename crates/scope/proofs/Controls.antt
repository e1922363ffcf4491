-- Closed cases of the definitions, which the checker computes: of each rule one that finds, one that finds the first of two, and one that
-- finds nothing.
-- Assumes nothing.
use Rattle.std.specs.Prelude.{◌≡◌, refl, List, [], ◌∷◌, map, ℕ, Option, None, Some}
use Rattle.basis.specs.First.{given}
use Rattle.sheet.specs.Table.{message_tag, extension_tag, field_tag}
use Rattle.sheet.specs.Members.{Enumeration}
use Rattle.scope.specs.Scope.{Scope, down, declaration_named, enum_named, value_named}
use Rattle.scope.proofs.Sample.{sheet, file, in_m, in_n, declares}

-- ---- messages: where the body stands, and the levels left. N in M, the first M, a name of another level, and with no level left
abbrev reached : Option Scope → List ℕ
reached None = []
reached (Some c) = c.place.body.from ∷ c.place.body.to ∷ c.place.left ∷ []

messages : map reached (in_n Some ∷ in_m Some ∷ down sheet (78 ∷ []) (file 16) ∷ []) ≡ (142 ∷ 142 ∷ 14 ∷ []) ∷ (14 ∷ 142 ∷ 15 ∷ []) ∷ [] ∷ []
unfolding file
messages = refl

levels : map (λ left. reached (down sheet (77 ∷ []) (file left))) (1 ∷ 0 ∷ []) ≡ (14 ∷ 142 ∷ 0 ∷ []) ∷ [] ∷ []
unfolding file
levels = refl

-- ---- extensions and fields: where the name stands, and the number
-- the file's x and not that of M, the first y, and f, which is a field
extensions : map (λ n. declares (declaration_named extension_tag sheet (n ∷ []) (file 16))) (120 ∷ 121 ∷ 102 ∷ [])
    ≡ (169 ∷ 7 ∷ []) ∷ (197 ∷ 5 ∷ []) ∷ [] ∷ []
unfolding file
extensions = refl

-- of M: x as an extension, the first f, and x, which is no field; and its message N, whose tag is of no declaration
members : map declares
    (in_m (declaration_named extension_tag sheet (120 ∷ [])) ∷ in_m (declaration_named field_tag sheet (102 ∷ []))
    ∷ in_m (declaration_named field_tag sheet (120 ∷ [])) ∷ in_m (declaration_named message_tag sheet (78 ∷ [])) ∷ [])
    ≡ (20 ∷ 7 ∷ []) ∷ (48 ∷ 5 ∷ []) ∷ [] ∷ [] ∷ []
unfolding file
members = refl

-- ---- enums: where the body stands. E of M, the first D, and E, which the file itself lacks
abbrev body : Option Enumeration → List ℕ
body None = []
body (Some e) = e.body.from ∷ e.body.to ∷ []

enums : map body (in_m (enum_named sheet (69 ∷ [])) ∷ enum_named sheet (68 ∷ []) (file 16) ∷ enum_named sheet (69 ∷ []) (file 16) ∷ [])
    ≡ (93 ∷ 135 ∷ []) ∷ (156 ∷ 156 ∷ []) ∷ [] ∷ []
unfolding file
enums = refl

-- values of E: b, the first a, and none
numbered : ℕ → Option ℕ
unfolding file
numbered n =
    given (in_m (enum_named sheet (69 ∷ []))) λ e.
    given (value_named sheet (n ∷ []) e.values) λ v. Some v.number

values : map numbered (98 ∷ 97 ∷ 99 ∷ []) ≡ Some 3 ∷ Some 1 ∷ None ∷ []
unfolding numbered
values = refl
