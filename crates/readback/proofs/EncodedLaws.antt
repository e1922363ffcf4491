-- Every listed reading has what the bytes are by Encoding alone: the records at each level, with their numbers, wire types and payloads.
-- The statement stands at the end.
-- Assumes nothing.
use Rattle.std.specs.Prelude.{◌≡◌, refl, List, [], ◌∷◌, ◌++◌, ℕ, zero, suc, ◌+◌, ◌≤◌, length, take, drop, Some}
use Rattle.basis.specs.Kit.{sym, ap, ◌∙◌}
use Rattle.basis.proofs.Kit.{arith}
use mathlib.Core.Path.{subst}
use mathlib.Core.List.{append-nil}
use lib.Seq.{drop-drop}
use Rattle.octets.specs.Octets.{part}
use Rattle.varint.proofs.VarintLaws.{read_some}
use Rattle.wire.specs.Tag.{number_of, wire_type_of}
use Rattle.payloads.specs.Extent.{Extent, on_read}
use Rattle.records.specs.Raw.{Raw, Front, front_on, behind_tag, front_of, raw_from, raw_of}
use Rattle.lookups.specs.Lookups.{Lookups, Message}
use Rattle.entries.specs.declared.Entry.{Entry}
use Rattle.entries.specs.Tree.{Tree}
use Rattle.entries.specs.Item.{Item, some, into, wrong, item}
use Rattle.entries.specs.Reading.{listed, reading}
use Rattle.readback.specs.Lying.{payload_of}
use Rattle.readback.specs.Encoded.{raw_entry, raws, Encoded}
use Rattle.readback.proofs.ReadingSteps.{Reads, reads_end, reads-leaves, reads_held, reading-reads}
use Rattle.readback.proofs.ItemLaws.{Fronted, fronted-inside, Made, made-wrong, made-unknown, made_plain, made_held, item-made}
use Rattle.readback.proofs.LyingLaws.{behind, inside, part-is}
use Rattle.varint.specs.Varint.{read}

-- ---- records one behind the other
raw-behind : (k : ℕ) (xs : List ℕ) → raw_from k xs ≡ raw_of (drop k xs)
unfolding raw_from
raw-behind zero xs = refl
raw-behind (suc k) [] = refl
raw-behind (suc k) (x ∷ xs) = raw-behind k xs

raw-step : (xs : List ℕ) (f : Front) (k : ℕ) (rs : List Raw) → front_of xs ≡ Some f → suc f.more ≡ k → k ≤ length xs
    → raw_of (drop k xs) ≡ Some rs → raw_of xs ≡ Some (f.first ∷ rs)
unfolding raw_from
raw-step [] f k rs q e h r = absurd (omega arith)
raw-step (x ∷ xs) f k rs q e h r =
    let next : raw_from f.more xs ≡ Some rs = raw-behind f.more xs ∙ ap (λ n. raw_of (drop n (x ∷ xs))) e ∙ r in
    rw (q, next)

-- ---- the record at the front of xs, which stand at a place of bs
module _ (bs : List ℕ) (place : ℕ) (xs rest : List ℕ) (h : drop place bs ≡ xs ++ rest) where
  -- what the front of the bytes is, of which k are taken
  record Fronts (first : Raw) (k : ℕ) : Type 0 where
    pub front : Front
    pub found : front_of xs ≡ Some front
    pub is-first : front.first ≡ first
    pub taken : suc front.more ≡ k
    pub room : k ≤ length xs

  abbrev ItemRaw : Item → Type 0
  ItemRaw (wrong w) = Unit {0}
  ItemRaw (some es k) = (e : Entry) × (es ≡ e ∷ []) × Fronts (raw_entry bs e) k
  ItemRaw (into e n k size) = Fronts (raw_entry bs e) (k + size) × (payload_of bs e ≡ take size (drop k xs))

  module _ (t n : ℕ) (x : Extent) (f : Fronted xs t n x) where
    part-front : part bs (place + (n + x.before)) (place + (n + x.before) + x.size) ≡ take x.size (drop (n + x.before) xs)
    part-front = part-is bs place xs rest h (n + x.before) x.size (fronted-inside xs t n x f)

    fronts : Fronts (record {
      number = number_of t;
      wire = wire_type_of t;
      payload = part bs (place + (n + x.before)) (place + (n + x.before) + x.size);
    }) (n + x.before + x.size)
    unfolding front_of
    fronts = record {
      front = front_on (drop n xs) t n x;
      found = rw (f.tag, on_read, f.good, behind_tag, f.found);
      is-first = rw (part-front, drop-drop);
      taken = omega (arith, read_some xs (read t n) f.tag);
      room = fronted-inside xs t n x f;
    }

  made-raw : {L : Lookups} {s : List ℕ} {m : Message} {i : Item} → Made L s m place xs i → ItemRaw i
  made-raw made-wrong = tt
  made-raw (made-unknown {t} {n} {x} f q) = (_, refl, fronts t n x f)
  made-raw (made_plain {t} {n} {x} f q w g) = (_, refl, fronts t n x f)
  made-raw (made_held {t} {n} {x} f q w g u) = (fronts t n x f, part-front t n x f)

  item-raw : (L : Lookups) (s : List ℕ) (m : Message) (i : Item) → item L s m place xs ≡ i → ItemRaw i
  item-raw L s m i g = subst ItemRaw g (made-raw (item-made L s m place xs))

-- ---- all of them
module _ (bs : List ℕ) (L : Lookups) (s : List ℕ) where
  reads-raw : {m : Message} {place : ℕ} {xs : List ℕ} {t : Tree} → Reads L s m place xs t → (rest : List ℕ) → drop place bs ≡ xs ++ rest
      → Encoded bs xs t
  unfolding raw_from
  reads-raw reads_end rest h = record { here = refl; inside = tt }
  reads-raw (reads-leaves {m} {place} {xs} {es} {k} {t} g r) rest h =
      let here = item-raw bs place xs rest h L s m (some es k) g in
      let front = here.2 in
      let later = reads-raw r rest (behind bs place xs rest h k front.room) in
      let q = raw-step xs front.front k (raws bs t) front.found front.taken front.room later.here in
      rw here.1 record { here = q ∙ ap (λ x. Some (x ∷ raws bs t)) front.is-first; inside = later.inside }
  reads-raw (reads_held {m} {place} {xs} {e} {n} {k} {size} {i} {t} g j r) rest h =
      let here = item-raw bs place xs rest h L s m (into e n k size) g in
      let front = here.0 in
      let later = reads-raw r rest (behind bs place xs rest h (k + size) front.room) in
      let room : k ≤ length xs = omega (arith, front.room) in
      let within = reads-raw j (drop size (drop k xs) ++ rest) (inside bs place xs rest h k size room) in
      let q = raw-step xs front.front (k + size) (raws bs t) front.found front.taken front.room later.here in
      record {
        here = q ∙ ap (λ x. Some (x ∷ raws bs t)) front.is-first;
        inside = (ap raw_of here.1 ∙ within.here, within.inside, later.inside);
      }

-- ==== the statement
-- The records at each level of every reading that is listed are what the bytes are by Encoding, by number, wire type and payload.
pub reading-encoded : (bs : List ℕ) (L : Lookups) (s : List ℕ) (d : ℕ) (m : Message) (t : Tree) → reading L s d m 0 bs ≡ listed t
    → Encoded bs bs t
reading-encoded bs L s d m t e = reads-raw bs L s (reading-reads L s d m 0 bs t e) [] (sym (append-nil bs))
