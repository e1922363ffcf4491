-- Records that a sheet types are not contradicted by an older one that keeps to it: their bytes are read under the older too.
-- Assumes nothing.
use Rattle.std.specs.Prelude.{◌≡◌, List, ℕ, ◌^◌, ◌<◌, length, Some}
use Rattle.basis.specs.Kit.{sym, ap, ◌∙◌}
use Rattle.types.specs.Types.{wire_of}
use Rattle.sheet.specs.declared.declaration.Declaration.{Declaration}
use Rattle.lookups.specs.Lookups.{Lookups, Message}
use Rattle.records.specs.Records.{Recs, nil, number, bytes, message, encode}
use Rattle.records.specs.Raw.{Proper}
use Rattle.entries.specs.Item.{declared}
use Rattle.entries.specs.Reading.{listed, reading}
use Rattle.readback.specs.Seen.{reached_by, seen, nested, Readable}
use Rattle.readback.specs.Typed.{DeclaredAs, Typed}
use Rattle.readback.specs.Older.{Kept, Keeps}
use Rattle.readback.proofs.RecordsRead.{names-all, reading-of-records}

module _ (L : Lookups) (s : List ℕ) (L' : Lookups) (s' : List ℕ) (Same : Message → Message → Type 0) (keeps : Keeps L s L' s' Same) where
  module _ {m m' : Message} (one : Same m m') where
    pub kept : {n t : ℕ} (a : DeclaredAs s' m' n t) (d : Declaration) → declared s m n ≡ Some d → Kept L s L' s' Same d a.by
    kept {n} {t} a d q = keeps m m' one n d a.by q a.declares

    pub kept-typ : {n t : ℕ} (a : DeclaredAs s' m' n t) (d : Declaration) → declared s m n ≡ Some d → d.shape.typ ≡ t
    kept-typ a d q = (kept a d q).typ ∙ a.typ

  pub older-readable : (rs : Recs) (m m' : Message) → Same m m' → Typed L' s' m' rs → Readable L s m rs
  older-readable nil m m' one y = tt
  older-readable (number n t v r) m m' one y =
      (λ d q. ap wire_of (kept-typ one y.0 d q), older-readable r m m' one y.2)
  older-readable (bytes n t bs r) m m' one y =
      (λ d q. ap wire_of (kept-typ one y.0 d q), λ d q g. y.1 (sym (kept-typ one y.0 d q) ∙ g), older-readable r m m' one y.2)
  older-readable (message n i r) m m' one y =
      let m'' = reached_by s' y.0.by y.1.place in (
        λ d q. (
          kept-typ one y.0 d q,
          names-all (λ p also. older-readable i p m'' also y.1.inside)
              ((kept one y.0 d q).path y.0.typ y.1.place y.1.found),
        ),
        older-readable r m m' one y.2,
      )

  -- ==== the statement
  -- The bytes of records that the newer types are listed under the older, never refused, as the older sees them.
  pub older-bytes : {rs : Recs} → Proper rs → (m m' : Message) → Same m m' → Typed L' s' m' rs → (place d : ℕ)
      → length (encode rs) < 2 ^ 64 → nested rs < d → reading L s d m place (encode rs) ≡ listed (seen L s m rs place)
  older-bytes {rs} p m m' one y place d h k = reading-of-records L s p m place d (older-readable rs m m' one y) h k
