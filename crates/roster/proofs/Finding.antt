-- A loop over sibling fields that looks for the i-th of what they declare: some of the fields are passed, and what is looked for stands
-- beyond what those declare.
--
--                                 in_turn f w ==  what f gives of each of the fields w, in order
--                          behind passed f w ==  the same, behind what is passed
--   Finding f s from to i at before room k p <-> at the place p, the i-th of what f gives of all fields is the k-th of what it gives of
--                                                those that are left, and the room has the first `at` bytes of `before`
--          FindingIn f s from to i at before room k it <-> so it is where the walk `it` goes on
--
-- The laws:
--   finding-start  at the first place all are left
--     finding-end  at the end there is none
--     finding-cut  so it is where no whole field stands
--     finding-hit  what is found in the field that stands there is the answer
--   finding-roomy  the room has as many bytes as the sheet
--   finding-ahead  the field that stands there starts behind the bytes that are kept
--    finding-next  where it stands further on, the loop goes on from the field's end
--    the others are these laws, of a `Fields`
--
-- Assumes nothing.
use Rattle.std.specs.Prelude.{◌≡◌, refl, List, [], ◌++◌, ℕ, ◌≤◌, ◌<◌, length, take, None, Some, Option, Result, Ok, Err}
use Rattle.basis.specs.Kit.{sym, ◌∙◌}
use Rattle.basis.proofs.Kit.{arith}
use mathlib.Core.List.{append_assoc, append-nil}
use lib.Seq.{length-take-le}
use Rattle.field.specs.Field.{field_at}
use Rattle.field.specs.Walk.{Walk, done, cut, step, walk}
use Rattle.field.proofs.FieldLaws.{field-bounds}
use Rattle.field.specs.declared.fields.Fields.{Fields}
use Rattle.field.specs.Fields.{Goes}
use Rattle.field.proofs.InFields.{Over, over-before, over-read, over-next, over-at, over-ordered, over-within}
use Rattle.field.proofs.Rest.{Rest, rest-start, rest_end, rest-cut, rest-step, rest-next}
use Rattle.names.specs.Names.{Named}
use Rattle.roster.specs.declared.Nth.{Nth}
use Rattle.roster.specs.inner.Nth.{nth, name_or, Finds}
use Rattle.roster.proofs.NthLaws.{nth_past, nth-found, name-past, name-none, name-found, take-front}
use Rattle.field.specs.declared.Field.{Field}

abbrev pub in_turn : (f : (tag from to : ℕ) → List Named) → Walk → List Named
in_turn f done = []
in_turn f cut = []
in_turn f (step t a e w) = f t a e ++ in_turn f w

abbrev pub behind : (passed : List Named) (f : (tag from to : ℕ) → List Named) → Walk → List Named
behind passed f w = passed ++ in_turn f w

pub record Finding (f : (tag from to : ℕ) → List Named) (s : List ℕ) (from to i at : ℕ) (before room : List ℕ) (k p : ℕ) : Type 0 where
  pub passed : List Named
  pub left : Rest (in_turn f (walk s from to)) (behind passed f) s to p
  pub beyond : nth passed i ≡ Err k
  pub kept : take at room ≡ take at before
  pub sized : length room ≡ length before
  pub ahead : at ≤ p
  pub roomy : length s ≤ length before

module _ (f : ℕ → ℕ → ℕ → List Named) (s : List ℕ) (from to i at : ℕ) (before : List ℕ) where
  pub finding-start : from ≤ to → to ≤ length s → at ≤ from → length s ≤ length before → Finding f s from to i at before before i from
  finding-start h g l m = record {
    passed = [];
    left = rest-start (behind [] f) s from to h g;
    beyond = refl;
    kept = refl;
    sized = refl;
    ahead = l;
    roomy = m;
  }

  module _ (room : List ℕ) (k p : ℕ) (x : Finding f s from to i at before room k p) where
    none_left : in_turn f (walk s from to) ≡ behind x.passed f done → Finds (in_turn f (walk s from to)) i at before room (Err k)
    none_left e =
        let u : in_turn f (walk s from to) ≡ x.passed = e ∙ append-nil x.passed in
        rw u (record {
          is = sym x.beyond;
          sized = x.sized;
          name = rw (name-none (take at before) x.passed i k x.beyond, ← x.kept) (take-front at room);
        })

    pub finding-roomy : length s ≤ length room
    finding-roomy = omega (arith, x.roomy, x.sized)

    pub finding-end : to ≤ p → Finds (in_turn f (walk s from to)) i at before room (Err k)
    finding-end h = none_left (rest_end _ (behind x.passed f) s to p x.left h)

    module _ (h : p < to) (r : Option Field) (q : r ≡ field_at s p to) where
      pub finding-cut : r ≡ None → Finds (in_turn f (walk s from to)) i at before room (Err k)
      finding-cut g = none_left (rest-cut _ (behind x.passed f) s to p x.left h r q g)

      pub finding-ahead : (here : Field) → r ≡ Some here → at ≤ here.from
      finding-ahead here g = let b = field-bounds s p to r q here g in omega (arith, x.ahead, b.starts)

      module _ (here : Field) (g : r ≡ Some here) (after : List ℕ) (y : Result Nth ℕ) (z : Finds (f here.tag here.from here.to) k at room after y) where
        pub finding-hit : (n : Nth) → y ≡ Ok n → Finds (in_turn f (walk s from to)) i at before after (Ok n)
        finding-hit n v =
            let is : nth (f here.tag here.from here.to) k ≡ Ok n = sym z.is ∙ v in
            let rest = in_turn f (walk s here.to to) in
            let u = rest-step _ (behind x.passed f) s to p x.left h r q here g in
            let same : name_or (take at before) (x.passed ++ (f here.tag here.from here.to ++ rest)) i ≡ name_or (take at room) (f here.tag here.from here.to) k =
            name-past (take at before) x.passed (f here.tag here.from here.to ++ rest) i k x.beyond
            ∙ name-found (take at before) (f here.tag here.from here.to) rest k n is
            ∙ rw x.kept in
            rw u (record {
              is = sym (nth_past x.passed (f here.tag here.from here.to ++ rest) i k x.beyond ∙ nth-found (f here.tag here.from here.to) rest k n is);
              sized = z.sized ∙ x.sized;
              name = rw same z.name;
            })

        pub finding-next : (j : ℕ) → y ≡ Err j → Finding f s from to i at before after j here.to
        finding-next j v =
            let beyond : nth (f here.tag here.from here.to) k ≡ Err j = sym z.is ∙ v in
            let b = field-bounds s p to r q here g in
            let l : length (take at room) ≡ at =
            length-take-le at room (omega (arith, x.ahead, x.sized, x.roomy, x.left.within, x.left.inside)) in
            let kept : take (length (take at room)) after ≡ take at room =
            rw (name-none (take at room) (f here.tag here.from here.to) k j beyond) at z.name in
            record {
              passed = x.passed ++ f here.tag here.from here.to;
              left =
                  rest-next _ (behind x.passed f) s to p x.left h r q here g (behind (x.passed ++ f here.tag here.from here.to) f)
                  (sym (append_assoc x.passed (f here.tag here.from here.to) (in_turn f (walk s here.to to))));
              beyond = nth_past x.passed (f here.tag here.from here.to) i k x.beyond ∙ beyond;
              kept = rw l at kept ∙ x.kept;
              sized = z.sized ∙ x.sized;
              ahead = omega (arith, x.ahead, b.starts, b.ordered);
              roomy = x.roomy;
            }

-- ---- the same, of the walk that a `Fields` is
pub record FindingIn (f : (tag from to : ℕ) → List Named) (s : List ℕ) (from to i at : ℕ) (before room : List ℕ) (k : ℕ) (it : Fields) : Type 0 where
  pub over : Over it s to
  pub left : Finding f s from to i at before room k it.at

pub finding-in-start : (f : ℕ → ℕ → ℕ → List Named) (s : List ℕ) (from to i at : ℕ) (before : List ℕ) (it : Fields)
    → it.bytes.now ≡ s → it.at ≡ from → it.end ≡ to → from ≤ to → to ≤ length s → at ≤ from → length s ≤ length before
    → FindingIn f s from to i at before before i it
finding-in-start f s from to i at before it b a e h g l m =
    record { over = record { bytes = b; end = e }; left = rw a (finding-start f s from to i at before h g l m) }

module _ (f : ℕ → ℕ → ℕ → List Named) (s : List ℕ) (from to i at : ℕ) (before room : List ℕ) (k : ℕ) (it : Fields)
    (x : FindingIn f s from to i at before room k it) where
  pub finding-in-roomy : length s ≤ length room
  finding-in-roomy = finding-roomy f s from to i at before room k it.at x.left

  pub finding-in-end : it.end ≤ it.at → Finds (in_turn f (walk s from to)) i at before room (Err k)
  finding-in-end h = finding-end f s from to i at before room k it.at x.left (rw (← x.over.end) h)

  module _ (it' : Fields) (r : Option Field) (w : Goes it it' r) where
    pub finding-in-cut : r ≡ None → Finds (in_turn f (walk s from to)) i at before room (Err k)
    finding-in-cut = finding-cut f s from to i at before room k it.at x.left (over-before x.over it' r w) r (over-read x.over it' r w)

    module _ (here : Field) (g : r ≡ Some here) where
      pub finding-in-ahead : at ≤ here.from
      finding-in-ahead =
          finding-ahead f s from to i at before room k it.at x.left (over-before x.over it' r w) r (over-read x.over it' r w) here g

      pub finding-in-ordered : here.from ≤ here.to
      finding-in-ordered = over-ordered x.over it' r w here g

      pub finding-in-within : to ≤ length s → here.to ≤ length s
      finding-in-within h = over-within x.over it' r w here g h

      module _ (after : List ℕ) (y : Result Nth ℕ) (z : Finds (f here.tag here.from here.to) k at room after y) where
        pub finding-in-hit : (n : Nth) → y ≡ Ok n → Finds (in_turn f (walk s from to)) i at before after (Ok n)
        finding-in-hit =
            finding-hit f s from to i at before room k it.at x.left (over-before x.over it' r w) r (over-read x.over it' r w) here g after y z

        pub finding-in-next : (j : ℕ) → y ≡ Err j → FindingIn f s from to i at before after j it'
        finding-in-next j v = record {
          over = over-next x.over it' r w;
          left = rw (over-at x.over it' r w here g)
              (finding-next f s from to i at before room k it.at x.left (over-before x.over it' r w) r (over-read x.over it' r w) here g after y z j v);
        }

pub ruleset finding_in_laws = (finding-in-roomy, finding-in-ahead, finding-in-ordered, finding-in-within)
