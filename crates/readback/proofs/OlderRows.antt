-- The rows of records that a sheet types, listed under an older one that keeps to it: these records in order, as the older has them.
-- Assumes nothing.
use Rattle.std.specs.Prelude.{◌≡◌, refl, List, [], ◌∷◌, ◌++◌, map, ℕ, suc, ◌+◌, length, drop, Option, None, Some}
use Rattle.basis.specs.Kit.{sym, ◌∙◌}
use mathlib.Core.Path.{ap₂}
use mathlib.Core.List.{append-nil, append_assoc, map-append}
use Rattle.types.specs.Types.{wire_of, LEN, TYPE_MESSAGE}
use Rattle.payloads.specs.Value.{said, value_of}
use Rattle.sheet.specs.declared.declaration.Declaration.{Declaration}
use Rattle.lookups.specs.Lookups.{Lookups, Message}
use Rattle.records.specs.Records.{Recs, payload, headed, head_of, sized, encode}
use Rattle.records.specs.Raw.{Proper, proper-nil, proper-number, proper-bytes, proper-message}
use Rattle.entries.specs.declared.Entry.{Entry}
use Rattle.entries.specs.Tree.{Tree, row, rows}
use Rattle.entries.specs.Item.{declared}
use Rattle.readback.specs.Seen.{entry_by, reached_by, seen, holds, Names}
use Rattle.readback.specs.Older.{Keeps, told_as, inside_of, told}
use Rattle.readback.specs.Typed.{Typed, Content, content_at, content_of}
use Rattle.readback.proofs.PlaceLaws.{drop-behind, part_at}
use Rattle.readback.proofs.ValuesBack.{value-back, value_none}
use Rattle.readback.proofs.RecordsRead.{names-all}
use Rattle.readback.proofs.OlderBytes.{kept, kept-typ}

-- ---- the row of a record whose payload stands behind its head
module _ (all : List ℕ) where
  entry-content : (l n t w v place : ℕ) (head body ys : List ℕ) (o : Option Declaration) → ((d : Declaration) → o ≡ Some d → d.shape.typ ≡ t)
      → value_of t (said w body) ≡ v → drop place all ≡ head ++ (body ++ ys)
      → content_of all (row l (entry_by o n w (place + length head) body)) ≡ told_as o (content_at l n t v body)
  entry-content l n t w v place head body ys None e g h =
      rw (part_at all (place + length head) body ys (drop-behind all place head (body ++ ys) h)) refl
  entry-content l n t w v place head body ys (Some d) e g h =
      rw (e d refl, g, part_at all (place + length head) body ys (drop-behind all place head (body ++ ys) h)) refl

  sized-content : (l n t place : ℕ) (bs xs ys : List ℕ) (o : Option Declaration) → ((d : Declaration) → o ≡ Some d → d.shape.typ ≡ t)
      → drop place all ≡ (sized n bs ++ xs) ++ ys
      → content_of all (row l (entry_by o n LEN (place + length (head_of n (length bs))) bs)) ≡ told_as o (content_at l n t 0 bs)
  sized-content l n t place bs xs ys o e h =
      entry-content l n t LEN 0 place (head_of n (length bs)) bs (xs ++ ys) o e (value_none t bs) (h ∙ simp append_assoc)

module _ (L : Lookups) (s : List ℕ) (L' : Lookups) (s' : List ℕ) (Same : Message → Message → Type 0) (keeps : Keeps L s L' s' Same) where
  module _ (all : List ℕ) where
    held-told : {l : ℕ} (o : Option Declaration) (e : Entry) (f : Message → Tree) (t : Tree) (x : Content) (g : Message → List Content)
        (later : List Content) → content_of all (row l e) ≡ told_as o x → map (content_of all) (rows l t) ≡ later
        → ((d : Declaration) → o ≡ Some d → Names L s d (λ k. map (content_of all) (rows (suc l) (f k)) ≡ g k))
        → map (content_of all) (rows l (holds L s o e f t)) ≡ told_as o x ∷ (inside_of L s o g ++ later)
    held-told None e f t x g later first rest inside = ap₂ ◌∷◌ first rest
    held-told {l} (Some d) e f t x g later first rest inside =
        let k = inside d refl in
        rw (k.found, map-append (content_of all)) (ap₂ ◌∷◌ first (ap₂ ◌++◌ k.inside rest))

    rows_told : {rs : Recs} → Proper rs → (m m' : Message) → Same m m' → (l place : ℕ) (rest : List ℕ) → Typed L' s' m' rs
        → drop place all ≡ encode rs ++ rest → map (content_of all) (rows l (seen L s m rs place)) ≡ told L s m l rs
    unfolding encode
    rows_told proper-nil m m' one l place rest y h = refl
    rows_told (proper-number {n} {t} {v} {r} range g b p) m m' one l place rest y h =
        let bs = headed n t ++ payload t v in
        let here : drop place all ≡ headed n t ++ (payload t v ++ (encode r ++ rest)) = h ∙ simp append_assoc in
        let later = rows_told p m m' one l (place + length bs) rest y.2
        (drop-behind all place bs (encode r ++ rest) (h ∙ append_assoc bs (encode r) rest)) in
        let first = entry-content all l n t (wire_of t) v place (headed n t) (payload t v) (encode r ++ rest) (declared s m n)
        (kept-typ L s L' s' Same keeps one y.0) (value-back t v b g y.1) here in
        ap₂ ◌∷◌ first later
    rows_told (proper-bytes {n} {t} {bs} {r} range e p) m m' one l place rest y h =
        let later = rows_told p m m' one l (place + length (sized n bs)) rest y.2
        (drop-behind all place (sized n bs) (encode r ++ rest) (h ∙ append_assoc (sized n bs) (encode r) rest)) in
        ap₂ ◌∷◌ (sized-content all l n t place bs (encode r) rest (declared s m n) (kept-typ L s L' s' Same keeps one y.0) h) later
    rows_told (proper-message {n} {i} {r} range q p) m m' one l place rest y h =
        let bs = encode i in
        let head = head_of n (length bs) in
        let later = rows_told p m m' one l (place + length (sized n bs)) rest y.2
        (drop-behind all place (sized n bs) (encode r ++ rest) (h ∙ append_assoc (sized n bs) (encode r) rest)) in
        let m'' = reached_by s' y.0.by y.1.place in
        let behind = drop-behind all place head (bs ++ (encode r ++ rest)) (h ∙ simp append_assoc) in
        let first = sized-content all l n TYPE_MESSAGE place bs (encode r) rest (declared s m n)
        (kept-typ L s L' s' Same keeps one y.0) h in
        held-told (declared s m n) _ (λ k. seen L s k i (place + length head)) (seen L s m r (place + length (sized n bs)))
        (content_at l n TYPE_MESSAGE 0 bs) (λ k. told L s k (suc l) i) (told L s m l r) first later
        λ d g. names-all (λ k also. rows_told q k m'' also (suc l) (place + length head) (encode r ++ rest) y.1.inside behind)
        ((kept L s L' s' Same keeps one y.0 d g).path y.0.typ y.1.place y.1.found)

  -- ==== the statement
  pub older-rows : {rs : Recs} → Proper rs → (m m' : Message) → Same m m' → Typed L' s' m' rs
      → map (content_of (encode rs)) (rows 0 (seen L s m rs 0)) ≡ told L s m 0 rs
  older-rows {rs} p m m' one y = rows_told (encode rs) p m m' one 0 0 [] y (sym (append-nil (encode rs)))
