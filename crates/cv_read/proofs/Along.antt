-- A loop that reads items one after another is `items_at`.
use Rattle.std.proofs.Common.{◌≡◌, ℕ, suc, ◌+◌, ◌-◌, ◌<◌, ◌≤◌, List, [], ◌∷◌, ◌++◌, length, Some, None, Option, refl, sym, ◌∙◌, ap, arith, append_assoc, append-nil, length-append}
use Rattle.easl_model.specs.declared.token.Token.{Token}
use Rattle.cv_read.specs.{Deep, Got, Stuck, items_at, many_at, put_front, then_more}
use Rattle.cv_read.specs.Read.{Read}

-- where the loop is: what is left gives the whole reading behind what was found
pub record IsAlong {A : Type 0} (step : List Token → Read (Option A)) (whole rest : List Token) (found : List A) : Type 0 where
  pub reads : put_front found (many_at step (suc (length whole) - length found) rest) ≡ items_at step whole
  pub turns : length rest + length found ≤ length whole

put_front-nil : {A : Type 0} (r : Read (List A)) → put_front [] r ≡ r
put_front-nil (Got xs us) = refl
put_front-nil (Stuck n) = refl
put_front-nil Deep = refl

put_front-front : {A : Type 0} (xs ys : List A) (r : Read (List A)) → put_front xs (put_front ys r) ≡ put_front (xs ++ ys) r
put_front-front xs ys (Got zs us) = ap (λ ws. Got ws us) (sym (append_assoc xs ys zs))
put_front-front xs ys (Stuck n) = refl
put_front-front xs ys Deep = refl

-- one more turn is left
opened : {A : Type 0} (step : List Token → Read (Option A)) (whole rest : List Token) (found : List A) → IsAlong step whole rest found
    → put_front found (then_more (many_at step (length whole - length found)) (step rest)) ≡ items_at step whole
opened step whole rest found a =
    let e : suc (length whole) - length found ≡ suc (length whole - length found) = let t = a.turns in omega arith in
    rw e at a.reads

pub starts : {A : Type 0} (step : List Token → Read (Option A)) (whole : List Token) → IsAlong step whole whole []
unfolding items_at
starts step whole =
    let e : suc (length whole) - 0 ≡ suc (length whole) = omega arith in
    record { reads = rw e (put_front-nil _); turns = omega arith }

pub goes_on : {A : Type 0} (step : List Token → Read (Option A)) (whole rest more : List Token) (found longer : List A) (x : A)
    → IsAlong step whole rest found → step rest ≡ Got (Some x) more → length more < length rest → longer ≡ found ++ x ∷ []
    → IsAlong step whole more longer
goes_on step whole rest more found longer x a is short e =
    let n : length longer ≡ suc (length found) = rw (e, length-append) (omega arith) in
    let k : suc (length whole) - length longer ≡ length whole - length found = omega arith in
    let o = rw is at (opened step whole rest found a) in
    record {
      reads = rw (k, e) (sym (put_front-front found (x ∷ []) (many_at step (length whole - length found) more)) ∙ o);
      turns = let t = a.turns in omega arith;
    }

pub ends : {A : Type 0} (step : List Token → Read (Option A)) (whole rest more : List Token) (found : List A) → IsAlong step whole rest found
    → step rest ≡ Got None more → items_at step whole ≡ Got found more
ends step whole rest more found a is =
    let o = rw is at (opened step whole rest found a) in sym o ∙ ap (λ ws. Got ws more) (append-nil found)

pub stops : {A : Type 0} (step : List Token → Read (Option A)) (whole rest : List Token) (found : List A) (n : ℕ) → IsAlong step whole rest found
    → step rest ≡ Stuck n → items_at step whole ≡ Stuck n
stops step whole rest found n a is =
    let o = rw is at (opened step whole rest found a) in sym o

pub deepens : {A : Type 0} (step : List Token → Read (Option A)) (whole rest : List Token) (found : List A) → IsAlong step whole rest found
    → step rest ≡ Deep → items_at step whole ≡ Deep
deepens step whole rest found a is =
    let o = rw is at (opened step whole rest found a) in sym o
