-- Items that are put behind others, one after another.
use Rattle.std.proofs.Common.{◌≡◌, ℕ, ◌+◌, ◌<◌, ◌≤◌, ◌∷◌, ◌++◌, [], List, ap, append_assoc, arith, drop, get_or, length, map, refl, suc, sym, zero, ◌∙◌}
use Rattle.std.proofs.lemmas.List.{append-nil, drop_more, map-append}
use Rattle.std.proofs.lemmas.List.Elements.{filter_map-append}
use Rattle.std.specs.Prelude.{Option, Some, None, filter_map, option_to_list}
use Rattle.client_model.specs.Statements.{Assign}
use Rattle.client_model.specs.declared.form.CallSite.{CallSite}
use Rattle.client_model.specs.declared.tree.Rhs.{Rhs}
use Rattle.client_points.specs.Writing.{Makes, at, written_with}
use Rattle.client_points.specs.declared.written.Written.{Written}
use Rattle.client_model.specs.Contexts.{Context, Situated}
use Rattle.client_model.specs.Points.{declared_at, done_at, point_of, site_at}
use Rattle.client_model.specs.Settings.{Setting}
use Rattle.easl_model.specs.declared.tree.Word.{Word}

pub rest_is : {A : Type 0} (xs : List A) (k : ℕ) (x : A) → k < length xs → x ≡ get_or xs k x → drop k xs ≡ x ∷ drop (k + 1) xs
rest_is xs k x within is = drop_more xs k x within ∙ ap (λ y. y ∷ drop (k + 1) xs) (sym is)

pub all_dropped : {A : Type 0} (xs : List A) (k : ℕ) → length xs ≤ k → drop k xs ≡ []
all_dropped [] zero few = refl
all_dropped [] (suc k) few = refl
all_dropped (x ∷ xs) zero few = absurd (omega (arith, few))
all_dropped (x ∷ xs) (suc k) few = all_dropped xs k (omega (arith, few))

-- what one more item gives is put behind the others
pub next_taken : {A B : Type 0} (f : A → B) (xs : List A) (k : ℕ) (x : A) (y : B) (done next all : List B)
    → k < length xs → x ≡ get_or xs k x → y ≡ f x → next ≡ done ++ y ∷ []
    → done ++ map f (drop k xs) ≡ all → next ++ map f (drop (k + 1) xs) ≡ all
next_taken f xs k x y done next all within is made pushed left =
    let rest = map f (drop (k + 1) xs) in
    ap (λ ys. ys ++ rest) pushed
    ∙ append_assoc done (y ∷ []) rest
    ∙ ap (λ z. done ++ z ∷ rest) made
    ∙ sym (ap (λ ys. done ++ map f ys) (rest_is xs k x within is))
    ∙ left

pub all_taken : {A B : Type 0} (f : A → B) (xs : List A) (k : ℕ) (done all : List B) → length xs ≤ k → done ++ map f (drop k xs) ≡ all → done ≡ all
all_taken f xs k done all few left = sym (append-nil done) ∙ sym (ap (λ ys. done ++ map f ys) (all_dropped xs k few)) ∙ left

-- parts that are the same
written_same : (v w : Written) → v.points ≡ w.points → v.variables ≡ w.variables → v.calls ≡ w.calls → v ≡ w
written_same v w points variables calls =
    ap (λ ps. record v { points = ps }) points
    ∙ ap (λ vs. record v { points = w.points; variables = vs }) variables
    ∙ ap (λ cs. record w { calls = cs }) calls

kept : {A B : Type 0} (f : A → Option B) (x : A) (made : Option B) → f x ≡ made → filter_map f (x ∷ []) ≡ option_to_list made
kept f x None is = rw is refl
kept f x (Some y) is = rw is refl

-- one statement
pub one_written : (x : Situated) (old new : Written) → new.points ≡ old.points ++ point_of x ∷ [] → new.variables ≡ old.variables ++ option_to_list (declared_at x)
    → new.calls ≡ old.calls ++ option_to_list (site_at x) → new ≡ written_with (x ∷ []) old
one_written x old new points variables calls =
    written_same new (written_with (x ∷ []) old) points
    (variables ∙ sym (ap (λ vs. old.variables ++ vs) (kept declared_at x (declared_at x) refl)))
    (calls ∙ sym (ap (λ cs. old.calls ++ cs) (kept site_at x (site_at x) refl)))

-- an assignment, which declares nothing
pub assignment_written : (s : Setting) (c : Context) (w : Word) (v : Rhs) (old new : Written) (site : Option CallSite)
    → new.points ≡ old.points ++ done_at s c (Assign w v) ∷ [] → new.variables ≡ old.variables → new.calls ≡ old.calls ++ option_to_list site → Makes s c (Some v) site
    → new ≡ written_with (at s c (Assign w v) ∷ []) old
assignment_written s c w v old new site points variables calls makes =
    one_written (at s c (Assign w v)) old new points (variables ∙ sym (append-nil old.variables))
    (calls ∙ ap (λ o. old.calls ++ option_to_list o) (makes (Assign w v) refl))

pub nothing_written : (w : Written) → written_with [] w ≡ w
nothing_written w = written_same (written_with [] w) w (append-nil w.points) (append-nil w.variables) (append-nil w.calls)

-- some, then others
pub both_written : (xs ys : List Situated) (w : Written) → written_with (xs ++ ys) w ≡ written_with ys (written_with xs w)
both_written xs ys w =
    written_same (written_with (xs ++ ys) w) (written_with ys (written_with xs w))
    (ap (λ ps. w.points ++ ps) (map-append point_of xs ys) ∙ sym (append_assoc w.points (map point_of xs) (map point_of ys)))
    (ap (λ vs. w.variables ++ vs) (filter_map-append declared_at xs ys) ∙ sym (append_assoc w.variables (filter_map declared_at xs) (filter_map declared_at ys)))
    (ap (λ cs. w.calls ++ cs) (filter_map-append site_at xs ys) ∙ sym (append_assoc w.calls (filter_map site_at xs) (filter_map site_at ys)))
