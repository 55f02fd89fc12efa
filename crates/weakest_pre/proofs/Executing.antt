-- Constructions and calls, as the code makes them.
use Rattle.std.proofs.Common.{◌≡◌, ℕ, zero, suc, ◌+◌, ◌-◌, ◌<◌, ◌≤◌, Bool, true, false, if◌then◌else◌, List, [], ◌∷◌, length, get_or, Some, slice_get, arith, refl, ap, ap₂, sym, subst, ◌∙◌}
use Rattle.std.specs.Prelude.{Result}
use Rattle.easl_model.specs.{Condition, Statement, constructor_of, statement_of, statements_of, written_by, written_in}
use Rattle.easl_model.specs.Form.{Form}
use Rattle.easl_model.specs.Statements.{Statements, If}
use Rattle.easl_model.specs.declared.form.Act.{Act}
use Rattle.easl_model.specs.declared.form.Method.{Method}
use Rattle.easl_heap.proofs.Called.{body_found}
use Rattle.access_paths.specs.declared.term.Family.{Family}
use Rattle.access_paths.specs.declared.term.Literal.{Literal}
use Rattle.question_model.specs.{Done, Making, Outcome, State, after_call, arguments_of, called, cube_after, holds, made, outcome, returned, run, state, step}
use Rattle.question_model.specs.{update, ◌>>=◌}
use Rattle.question_model.specs.Stage.{Stage}
use Rattle.question_model.specs.declared.answer.Answer.{Answer}
use Rattle.question_model.specs.declared.value.Value.{Value}
use Rattle.question_model.specs.declared.value.Value.TheVariants.{Fresh}
use Rattle.question_model.specs.declared.value.Write.{Write}
use Rattle.weakest_pre.specs.Running.{Gives, GivesTo, Leaves, Stops, closed, most}
use Rattle.weakest_pre.specs.declared.stop.Stop.{Stop}
use Rattle.weakest_pre.specs.declared.stop.Stop.TheVariants as stop

-- no statement has more statements in it than the list in which it stands
pub written_at : (acts : List Act) (i : ℕ) (act : Act) → i < length acts → act ≡ get_or acts i act
    → written_by (statement_of act) ≤ written_in (statements_of acts)
written_at [] i act within is = absurd (omega arith)
written_at (a ∷ acts) zero act within is =
    subst (λ x. written_by (statement_of x) ≤ written_in (statements_of (a ∷ acts))) (sym is) (omega arith)
written_at (a ∷ acts) (suc i) act within is = omega (arith, written_at acts i act (omega arith) is)

-- what stops the first part stops the whole
pub stops_on : {A B : Type 0} (s : Stage A) (f : A → Stage B) (e : Stop) → Stops s e → Stops (s >>= f) e
stops_on s f (stop.Needs t u) is = ap (λ x. x >>= f) is
stops_on s f stop.Long is = ap (λ x. x >>= f) is
stops_on s f stop.Memory is = tt

goes_on : {A B : Type 0} (s : Stage A) (f : A → Stage B) (x : A) → s ≡ Done x → (s >>= f) ≡ f x
goes_on s f x is = ap (λ y. y >>= f) is

-- one list of an `if` is executed, and its locals end with it
pub if_leaves : (form : Form) (answers : List Answer) (make : Making) (x : Statement) (c : Condition) (first second xs : Statements)
    → x ≡ If c first second → (s : State) (b : Bool) → holds form most answers s c ≡ Done b → xs ≡ (if b then first else second)
    → {X : Type 0} (r : Result X Stop) (t : State) → GivesTo (closed s (run form most answers make xs s)) r t
    → GivesTo (step form most answers make x s) r t
if_leaves form answers make x c first second xs is s b held chosen r t given =
    subst (λ z. GivesTo z r t) (sym (told b held chosen)) given
  where
    told : (b : Bool) → holds form most answers s c ≡ Done b → xs ≡ (if b then first else second)
        → step form most answers make x s ≡ closed s (run form most answers make xs s)
    told true held chosen =
        ap (λ y. step form most answers make y s) is
        ∙ goes_on (holds form most answers s c)
        (λ b. closed s (if b then run form most answers make first s else run form most answers make second s)) true held
        ∙ ap (λ ys. closed s (run form most answers make ys s)) (sym chosen)
    told false held chosen =
        ap (λ y. step form most answers make y s) is
        ∙ goes_on (holds form most answers s c)
        (λ b. closed s (if b then run form most answers make first s else run form most answers make second s)) false held
        ∙ ap (λ ys. closed s (run form most answers make ys s)) (sym chosen)

module _ (form : Form) (answers : List Answer) (class count : ℕ) (args : List Value) (writes : List Write) where
  -- a construction, one deeper
  made_next : (depth : ℕ) → 0 < depth → (m : Method) → slice_get form.methods (constructor_of form class) ≡ Some m
      → made form most answers depth class args writes count
      ≡ (run form most answers (made form most answers (depth - 1)) (statements_of m.body) (state (Fresh class count ∷ args) writes (count + 1))
      >>= (λ s. Done (outcome s.writes s.count (Fresh class count))))
  made_next zero some m there = absurd (omega arith)
  made_next (suc depth) some m there =
      let e : depth ≡ suc depth - 1 = omega arith in
      let n : suc count ≡ count + 1 = omega arith in
      ap (λ xs. run form most answers (made form most answers depth) xs (state (Fresh class count ∷ args) writes (suc count))
      >>= (λ s. Done (outcome s.writes s.count (Fresh class count)))) (body_found form (constructor_of form class) m there)
      ∙ ap (λ d. run form most answers (made form most answers d) (statements_of m.body) (state (Fresh class count ∷ args) writes (suc count))
      >>= (λ s. Done (outcome s.writes s.count (Fresh class count)))) e
      ∙ ap (λ k. run form most answers (made form most answers (suc depth - 1)) (statements_of m.body) (state (Fresh class count ∷ args) writes k)
      >>= (λ s. Done (outcome s.writes s.count (Fresh class count)))) n

  pub construct_stops : (depth : ℕ) → 0 < depth → (m : Method) → slice_get form.methods (constructor_of form class) ≡ Some m → (acts : List Act)
      → acts ≡ m.body → (slots : List Value) → slots ≡ Fresh class count ∷ args → (e : Stop)
      → Stops (run form most answers (made form most answers (depth - 1)) (statements_of acts) (state slots writes (count + 1))) e
      → Stops (made form most answers depth class args writes count) e
  construct_stops depth some m there acts are slots begin e is =
      let same : Stops (run form most answers (made form most answers (depth - 1)) (statements_of m.body)
      (state (Fresh class count ∷ args) writes (count + 1))) e = subst
      (λ vs. Stops (run form most answers (made form most answers (depth - 1)) (statements_of m.body) (state vs writes (count + 1))) e) begin
      (subst (λ xs. Stops (run form most answers (made form most answers (depth - 1)) (statements_of xs) (state slots writes (count + 1))) e) are is) in
      subst (λ (s : Stage Outcome). Stops s e) (sym (made_next depth some m there))
      (stops_on (run form most answers (made form most answers (depth - 1)) (statements_of m.body) (state (Fresh class count ∷ args) writes (count + 1)))
      (λ s. Done (outcome s.writes s.count (Fresh class count))) e same)

  pub construct_ends : (depth : ℕ) → 0 < depth → (m : Method) → slice_get form.methods (constructor_of form class) ≡ Some m → (acts : List Act)
      → acts ≡ m.body → (slots : List Value) → slots ≡ Fresh class count ∷ args → (s : State)
      → run form most answers (made form most answers (depth - 1)) (statements_of acts) (state slots writes (count + 1)) ≡ Done s
      → made form most answers depth class args writes count ≡ Done (outcome s.writes s.count (Fresh class count))
  construct_ends depth some m there acts are slots begin s is =
      let same : run form most answers (made form most answers (depth - 1)) (statements_of m.body) (state (Fresh class count ∷ args) writes (count + 1))
      ≡ Done s = sym (ap₂ (λ xs vs. run form most answers (made form most answers (depth - 1)) (statements_of xs)
      (state vs writes (count + 1))) are begin) ∙ is in
      made_next depth some m there
      ∙ goes_on (run form most answers (made form most answers (depth - 1)) (statements_of m.body) (state (Fresh class count ∷ args) writes (count + 1)))
      (λ s. Done (outcome s.writes s.count (Fresh class count))) s same

  -- no constructor is executed where none may stand
  pub construct_flat : (depth : ℕ) → depth ≡ 0 → made form most answers depth class args writes count ≡ Done (outcome writes (count + 1) (Fresh class count))
  construct_flat zero none = let n : suc count ≡ count + 1 = omega arith in ap (λ k. Done (outcome writes k (Fresh class count))) n
  construct_flat (suc depth) none = absurd (omega arith)

method_called : (form : Form) (answers : List Answer) (m : Method) (args : List Value) → m.constructor ≡ false
    → called form most answers m args
    ≡ (run form most answers (made form most answers (length form.classes)) (statements_of m.body) (state args [] 0)
    >>= (λ s. returned form most answers (made form most answers (length form.classes)) m.value s))
method_called form answers m args is = rw is refl

-- a method is executed, and then its `return`
pub method_leaves : (form : Form) (answers : List Answer) (m : Method) (args : List Value) (depth : ℕ) → depth ≡ length form.classes → m.constructor ≡ false
    → (acts : List Act) → acts ≡ m.body → (w : List Write) → w ≡ [] → (n : ℕ) → n ≡ 0 → (s : State)
    → run form most answers (made form most answers depth) (statements_of acts) (state args w n) ≡ Done s
    → (r : Result Value Stop) (writes : List Write) (count : ℕ)
    → Leaves (returned form most answers (made form most answers depth) m.value s) r writes count → Leaves (called form most answers m args) r writes count
method_leaves form answers m args depth deep is acts are w none n zeroed s ran r writes count left =
    let full = length form.classes in
    let one : run form most answers (made form most answers full) (statements_of m.body) (state args [] 0) ≡ Done s =
    ap₂ (λ d xs. run form most answers (made form most answers d) (statements_of xs) (state args [] 0)) (sym deep) (sym are)
    ∙ ap₂ (λ v k. run form most answers (made form most answers depth) (statements_of acts) (state args v k)) (sym none) (sym zeroed) ∙ ran in
    let whole : called form most answers m args ≡ returned form most answers (made form most answers depth) m.value s =
    method_called form answers m args is
    ∙ goes_on (run form most answers (made form most answers full) (statements_of m.body) (state args [] 0))
    (λ t. returned form most answers (made form most answers full) m.value t) s one
    ∙ ap (λ d. returned form most answers (made form most answers d) m.value s) (sym deep) in
    subst (λ (x : Stage Outcome). Leaves x r writes count) (sym whole) left

-- the body is executed, and then the cube is read
pub updated : (form : Form) (answers : List Answer) (m : Method) (family : Family) (results : ℕ)
    → (args : List Value) → args ≡ arguments_of m
    → (writes : List Write) (count : ℕ) (given : Value) → called form most answers m args ≡ Done (outcome writes count given)
    → (written : List Write) → written ≡ writes → (variables : List Value) → variables ≡ after_call family results given
    → (literals : List Literal) → literals ≡ family.cube.literals
    → (r : Result Bool Stop) → Gives (cube_after form most answers written variables literals) r
    → Gives (update form most answers m family results) r
updated form answers m family results args are writes count given done written same variables known literals all r gives =
    let ran : called form most answers m (arguments_of m) ≡ Done (outcome writes count given) =
    ap (λ vs. called form most answers m vs) (sym are) ∙ done in
    let told : update form most answers m family results ≡ cube_after form most answers written variables literals =
    goes_on (called form most answers m (arguments_of m))
    (λ x. cube_after form most answers x.writes (after_call family results x.result) family.cube.literals) (outcome writes count given) ran
    ∙ ap (λ ws. cube_after form most answers ws (after_call family results given) family.cube.literals) (sym same)
    ∙ ap₂ (λ vs ls. cube_after form most answers written vs ls) (sym known) (sym all) in
    subst (λ s. Gives s r) (sym told) gives
