-- A loop that writes elements as it goes, and a public call that runs it twice: once over nothing, to measure, and once over the lent
-- memory. One set of laws for elements of any type.
-- Assumes nothing.
use Rattle.std.specs.Prelude.{◌≡◌, refl, List, [], ◌∷◌, ◌++◌, ℕ, ◌+◌, ◌≤◌, ◌<◌, length, drop, Err, Ok, Result}
use Rattle.basis.specs.Kit.{sym, ap, ◌∙◌, sets}
use Rattle.basis.proofs.Kit.{arith}
use mathlib.Core.List.{append-nil}
use native.Mathlib.Nat.{zero-add, add-zero}
use lib.Seq.{sets-eq}
use Rattle.basis.proofs.Never.{never}
use Rattle.octets.specs.inner.Laid.{Laid}
use Rattle.octets.proofs.Overlay.{laid-append, laid-length}
use Rattle.reply.specs.declared.Cause.{Cause}
use Rattle.reply.specs.declared.Refusal.TheVariants.{NoRoom}
use Rattle.reply.specs.declared.Answer.{Answer}
use Rattle.reply.specs.Reply.{refused_for, refused_by, done_with}
use Rattle.reply.specs.Outcome.{Outcome, refused, give, push, Answered}
use Rattle.reply.proofs.Outcomes.{push-push, push-nil, answered-refused, answered-no-room, answered-done}
use Rattle.emit.specs.inner.Puts.{Puts, wrote, refuses}

pub give-inv : {A : Type 0} {xs ys : List A} → give xs ≡ give ys → xs ≡ ys
give-inv e = cc

-- ---- the loop: elements are laid over l from the place `at` up to n, and l is now l'; of the outcome o what is left is r
pub record Front {A : Type 0} (o r : Outcome A) (at : ℕ) (l l' : List A) (n : ℕ) : Type 0 where
  pub front : List A
  pub laid : Laid l at front l' n
  pub rest : o ≡ push front r

module _ {A : Type 0} where
  pub front-start : (o : Outcome A) (at : ℕ) (l : List A) → Front o o at l l at
  front-start o at l = record { front = []; laid = record { next = sym (add-zero at); left = refl }; rest = sym (push-nil o) }

  module _ (o r : Outcome A) (at : ℕ) (l m : List A) (n : ℕ) (k : Front o r at l m n) where
    pub front-laid : (xs : List A) (r' : Outcome A) (l' : List A) (n' : ℕ) → r ≡ push xs r' → Laid m n xs l' n' → Front o r' at l l' n'
    front-laid xs r' l' n' e p = record {
      front = k.front ++ xs;
      laid = laid-append k.front xs k.laid p;
      rest = k.rest ∙ ap (push k.front) e ∙ push-push k.front xs r';
    }

    pub front-put : (xs : List A) (r' : Outcome A) (l' : List A) → r ≡ push xs r' → l' ≡ sets m n xs → Front o r' at l l' (n + length xs)
    front-put xs r' l' e p = front-laid xs r' l' (n + length xs) e (record { next = refl; left = p })

    pub front-pass : (r' : Outcome A) → r ≡ r' → Front o r' at l m n
    front-pass r' e = rw e at k

    pub front_length : length m ≡ length l
    front_length = laid-length k.front k.laid

    pub front-refused : (c : Cause) → r ≡ refused c → Puts o at l m (Err c)
    front-refused c e = let q : o ≡ refused c = k.rest ∙ ap (push k.front) e in rw q refuses

    pub front-done : r ≡ give [] → Puts o at l m (Ok n)
    front-done e =
        let q : o ≡ give k.front = k.rest ∙ ap (push k.front) e ∙ ap give (append-nil k.front) in
        rw q (wrote k.laid)

-- ---- what a writer's answer says of its outcome

-- the elements that were to be written, and the place after them
pub record Given {A : Type 0} (o : Outcome A) (at : ℕ) (l l' : List A) (n : ℕ) : Type 0 where
  pub elements : List A
  pub is : o ≡ give elements
  pub laid : Laid l at elements l' n

module _ {A : Type 0} where
  pub put-wrote : {o : Outcome A} {at : ℕ} {l l' : List A} {p : Result ℕ Cause} (n : ℕ) → Puts o at l l' p → p ≡ Ok n → Given o at l l' n
  put-wrote n (wrote {elements} {at} {next} laid) e =
      let same : next ≡ n = cc in
      record { elements = elements; is = refl; laid = rw same at laid }
  put-wrote n refuses e = never cc

  pub put_refused : {o : Outcome A} {at : ℕ} {l l' : List A} {p : Result ℕ Cause} (c : Cause) → Puts o at l l' p → p ≡ Err c → o ≡ refused c
  put_refused c (wrote laid) e = never cc
  put_refused c (refuses {cause}) e = let same : cause ≡ c = cc in ap refused same

  pub put-left : {o : Outcome A} {at : ℕ} {l l' : List A} {p : Result ℕ Cause} (es : List A) → Puts o at l l' p → o ≡ give es → l' ≡ sets l at es
  put-left es (wrote {elements} laid) e = rw (give-inv e) at laid.left
  put-left es refuses e = never cc

  -- ---- the public call, which writes from the front

  empty-front : (z l : List A) → length z ≡ 0 → z ++ l ≡ l
  empty-front [] l h = refl
  empty-front (x ∷ z) l h = absurd (omega arith)

  pub sets-front : (es l : List A) → length es ≤ length l → sets l 0 es ≡ es ++ drop (length es) l
  sets-front es l h = sets-eq es l 0 (rw zero-add h) ∙ ap (λ n. es ++ drop n l) (zero-add (length es))

  -- the room that was lent to measure was empty, so it came back as it was
  module _ (whole o : Outcome A) (e : whole ≡ o) (l z z' : List A) (p : Result ℕ Cause) (measured : Puts o 0 z z' p) (empty : length z' ≡ 0) where
    pub call-refused : (c : Cause) (r : Answer) → p ≡ Err c → r ≡ refused_for c → Answered whole l (z' ++ l) r
    call-refused c r q a = rw (a, empty-front z' l empty) (answered-refused whole l c (e ∙ put_refused c measured q))

    pub call-no-room : (n : ℕ) (r : Answer) → p ≡ Ok n → length (z' ++ l) < n → r ≡ refused_by NoRoom → Answered whole l (z' ++ l) r
    call-no-room n r q h a =
        let g = put-wrote n measured q in
        let same : z' ++ l ≡ l = empty-front z' l empty in
        let short : length l < length g.elements = omega (arith, ap length same, g.laid.next) in
        rw (a, same) (answered-no-room whole l g.elements (e ∙ g.is) short)

  -- the second run writes what the first measured
  module _
      (whole o : Outcome A) (l l' z z' : List A) (n : ℕ) (r : Answer) (p p' : Result ℕ Cause)
      (a : r ≡ done_with n) (written : Puts o 0 (z' ++ l) l' p') where
    pub call-done : Puts o 0 z z' p → p ≡ Ok n → length z' ≡ 0 → n ≤ length (z' ++ l) → whole ≡ o → Answered whole l l' r
    call-done measured q empty h e =
        let g = put-wrote n measured q in
        let size : n ≡ length g.elements = g.laid.next ∙ zero-add (length g.elements) in
        let same : z' ++ l ≡ l = empty-front z' l empty in
        let room : length g.elements ≤ length l = omega (arith, ap length same, size) in
        let left : l' ≡ g.elements ++ drop (length g.elements) l =
        put-left g.elements written g.is ∙ ap (λ x. sets x 0 g.elements) same ∙ sets-front g.elements l room in
        rw (a ∙ ap done_with size, left) (answered-done whole l g.elements (e ∙ g.is) room)

pub ruleset call_laws = (call-refused, call-no-room, call-done)
