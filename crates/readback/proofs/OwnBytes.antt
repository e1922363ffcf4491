-- The bytes of records that a sheet types, read under that sheet: the rows are these records, in order, by number, type, value and payload.
-- Assumes nothing.
use Rattle.std.specs.Prelude.{◌≡◌, refl, List, ◌∷◌, map, ℕ, suc, ◌^◌, ◌<◌, length}
use Rattle.basis.specs.Kit.{ap, ◌∙◌}
use Rattle.lookups.specs.Lookups.{Lookups, Message}
use Rattle.records.specs.Records.{Recs, nil, number, bytes, message, payload, encode}
use Rattle.records.specs.Raw.{Proper}
use Rattle.entries.specs.Tree.{rows}
use Rattle.entries.specs.Reading.{listed, reading}
use Rattle.readback.specs.Seen.{reached_by, seen, nested, Readable}
use Rattle.readback.specs.Older.{Keeps, told}
use Rattle.readback.specs.Typed.{Typed, content_at, contents, content_of}
use Rattle.readback.proofs.OlderBytes.{older-readable, older-bytes}
use Rattle.readback.proofs.OlderRows.{older-rows}

module _ (L : Lookups) (s : List ℕ) where
  -- a sheet keeps to itself
  itself : Keeps L s L s (λ m m'. m ≡ m')
  itself m m' same n d d' q g =
      let one : d ≡ d' = cc in
      rw one (record { typ = refl; path = λ h p f. record { place = p; found = f; inside = refl } })

  pub typed-readable : (m : Message) (rs : Recs) → Typed L s m rs → Readable L s m rs
  typed-readable m rs y = older-readable L s L s (λ m m'. m ≡ m') itself rs m m refl y

  -- what the sheet that types records is told of them is all
  told-all : (rs : Recs) (m : Message) (l : ℕ) → Typed L s m rs → told L s m l rs ≡ contents l rs
  told-all nil m l y = refl
  told-all (number n t v r) m l y = rw y.0.declares (ap (λ x. content_at l n t v (payload t v) ∷ x) (told-all r m l y.2))
  told-all (bytes n t bs r) m l y = rw y.0.declares (ap (λ x. content_at l n t 0 bs ∷ x) (told-all r m l y.2))
  told-all (message n i r) m l y =
      let p = reached_by s y.0.by y.1.place in
      rw (y.0.declares, y.1.found, told-all i p (suc l) y.1.inside, told-all r m l y.2) refl

  -- ==== the statements, of records that the sheet types at the message m
  module _ {rs : Recs} (p : Proper rs) (m : Message) (y : Typed L s m rs) where
    -- their bytes are listed, never refused,
    pub own-bytes : (d : ℕ) → length (encode rs) < 2 ^ 64 → nested rs < d → reading L s d m 0 (encode rs) ≡ listed (seen L s m rs 0)
    own-bytes d h k = older-bytes L s L s (λ m m'. m ≡ m') itself p m m refl y 0 d h k

    -- and the rows are exactly these records, in order, with their levels, numbers, types, values and payloads
    pub own-rows : map (content_of (encode rs)) (rows 0 (seen L s m rs 0)) ≡ contents 0 rs
    own-rows = older-rows L s L s (λ m m'. m ≡ m') itself p m m refl y ∙ told-all rs m 0 y
