-- Bodies and cubes ask terms of the question's variables.
use Rattle.std.proofs.Common.{ℕ, zero, suc, Bool, true, false, not, if◌then◌else◌, List, [], ◌∷◌, ◌++◌, length, take, Option, Some, None, slice_get, slice_index_or, slice_set, subst}
use Rattle.easl_model.specs.{Change, Local, Statement, Write, body_of, constructor_of, fields_of, statements_of}
use Rattle.easl_model.specs.Form.{Form}
use Rattle.easl_model.specs.Statements.{Statements, If, none, ◌▸◌}
use Rattle.easl_model.specs.declared.form.Method.{Method}
use Rattle.easl_model.specs.declared.form.Reach as path
use Rattle.easl_model.specs.declared.form.Source.{Source}
use Rattle.easl_model.specs.declared.form.Source.TheVariants.{Reach, Make}
use Rattle.access_paths.specs.{Ask, Leaf}
use Rattle.access_paths.specs.Trees.{Tree}
use Rattle.access_paths.specs.declared.term.Literal.{Literal}
use Rattle.question_model.specs.{AsksTerms, Done, IsTreeBehind, Making, Needs, Outcome, State, are_same, argument, arguments, called, cube_after, ended}
use Rattle.question_model.specs.{holds, literal_after, made, outcome, reached, returned, run, said, state, step, term_after, value, written, written_in}
use Rattle.question_model.specs.{◌>>=◌}
use Rattle.question_model.specs.Stage.{Stage}
use Rattle.question_model.specs.declared.answer.Answer.{Answer}
use Rattle.question_model.specs.declared.value.Value.{Value}
use Rattle.question_model.specs.declared.value.Value.TheVariants.{Before, Fresh, Nothing}
use Rattle.question_model.specs.declared.value.Write as values
use Rattle.question_model.proofs.AskedConditions.{holds_comes}
use Rattle.question_model.proofs.AskedValues as told

module _ (form : Form) (most : Option ℕ) (variables : List (Option ℕ)) where
  abbrev Comes : {A : Type 0} → (A → Type 0) → Stage A → Type 0
  Comes P s = told.Comes form most variables P s

  abbrev comes_on : {A B : Type 0} (P : A → Type 0) (Q : B → Type 0) (s : Stage A) (f : A → Stage B) → Comes P s
      → ((x : A) → P x → Comes Q (f x)) → Comes Q (s >>= f)
  comes_on P Q s f so on = told.comes_on form most variables P Q s f so on

  abbrev comes_if : {A : Type 0} (P : A → Type 0) (b : Bool) (s t : Stage A) → Comes P s → Comes P t
      → Comes P (if b then s else t)
  comes_if P b s t so also = told.comes_if form most variables P b s t so also

  abbrev IsFine : Value → Type 0
  IsFine v = told.IsFine form most variables v

  abbrev AllFine : List Value → Type 0
  AllFine vs = told.AllFine form most variables vs

  abbrev FineWrites : List values.Write → Type 0
  FineWrites ws = told.FineWrites form most variables ws

  abbrev SomeAnswer : Bool → Type 0
  SomeAnswer b = told.SomeAnswer form most variables b

  module _ (answers : List Answer) where
    abbrev FineState : State → Type 0
    FineState s = told.FineState form most variables answers s

    set_fine : (vs : List Value) (k : ℕ) (x : Value) → AllFine vs → IsFine x → AllFine (slice_set vs k x)
    set_fine [] k x fine is = tt
    set_fine (v ∷ vs) zero x fine is = (is, fine.1)
    set_fine (v ∷ vs) (suc k) x fine is = (fine.0, set_fine vs k x fine.1 is)

    last_fine : (vs : List Value) (x : Value) → AllFine vs → IsFine x → AllFine (vs ++ x ∷ [])
    last_fine [] x fine is = (is, tt)
    last_fine (v ∷ vs) x fine is = (fine.0, last_fine vs x fine.1 is)

    take_fine : (n : ℕ) (vs : List Value) → AllFine vs → AllFine (take n vs)
    take_fine zero vs fine = tt
    take_fine (suc n) [] fine = tt
    take_fine (suc n) (v ∷ vs) fine = (fine.0, take_fine n vs fine.1)

    abbrev pub FineOutcome : Outcome → Type 0
    FineOutcome x = FineWrites x.writes × IsFine x.result

    abbrev pub FineMaking : Making → Type 0
    FineMaking make = (class : ℕ) (vs : List Value) (ws : List values.Write) (count : ℕ) → AllFine vs → FineWrites ws
        → Comes FineOutcome (make class vs ws count)

    argument_comes : (s : State) → FineState s → (a : Option path.Reach) → Comes IsFine (argument form most answers s a)
    argument_comes s fine None = tt
    argument_comes s fine (Some r) = told.reached_comes form most variables answers s fine r

    arguments_come : (s : State) → FineState s → (args : List (Option path.Reach)) → Comes AllFine (arguments form most answers s args)
    arguments_come s fine [] = tt
    arguments_come s fine (a ∷ args) =
        comes_on IsFine AllFine (argument form most answers s a) (λ v. arguments form most answers s args >>= (λ vs. Done (v ∷ vs))) (argument_comes s fine a)
        (λ v is. comes_on AllFine AllFine (arguments form most answers s args) (λ vs. Done (v ∷ vs)) (arguments_come s fine args) (λ vs are. (is, are)))

    written_fine : (owner : Value) (p : ℕ) (v : Value) (ws : List values.Write) → IsFine owner → IsFine v → FineWrites ws
        → FineWrites (written form owner p v ws)
    written_fine (Before class t) p v ws is also fine = by (slice_get (fields_of form class) p)
      where
        by : (o : Option ℕ) → FineWrites (written_in class (Before class t) p v ws o)
        by None = fine
        by (Some of) = (is, also, fine)
    written_fine (Fresh class n) p v ws is also fine = by (slice_get (fields_of form class) p)
      where
        by : (o : Option ℕ) → FineWrites (written_in class (Fresh class n) p v ws o)
        by None = fine
        by (Some of) = (tt, also, fine)
    written_fine Nothing p v ws is also fine = fine

    module _ (make : Making) (makes : FineMaking make) where
      value_comes : (s : State) → FineState s → (v : Source) → Comes FineOutcome (value form most answers make v s)
      value_comes s fine (Reach r) =
          comes_on IsFine FineOutcome (reached form most answers s r) (λ v. Done (outcome s.writes s.count v))
          (told.reached_comes form most variables answers s fine r) (λ v is. (fine.1, is))
      value_comes s fine (Make class args) =
          comes_on AllFine FineOutcome (arguments form most answers s args) (λ vs. make class vs s.writes s.count) (arguments_come s fine args)
          (λ vs are. makes class vs s.writes s.count are fine.1)

      mutual
        step_comes : (a : Statement) (s : State) → FineState s → Comes FineState (step form most answers make a s)
        step_comes (Local v) s fine =
            comes_on FineOutcome FineState (value form most answers make v s) (λ x. Done (state (s.slots ++ x.result ∷ []) x.writes x.count))
            (value_comes s fine v)
            (λ x so. (last_fine s.slots x.result fine.0 so.1, so.0))
        step_comes (Change slot v) s fine =
            comes_on FineOutcome FineState (value form most answers make v s) (λ x. Done (state (slice_set s.slots slot x.result) x.writes x.count))
            (value_comes s fine v)
            (λ x so. (set_fine s.slots slot x.result fine.0 so.1, so.0))
        step_comes (Write target p v) s fine =
            comes_on IsFine FineState (reached form most answers s target)
            (λ owner. value form most answers make v s >>= (λ x. Done (state s.slots (written form owner p x.result x.writes) x.count)))
            (told.reached_comes form most variables answers s fine target)
            (λ owner is. comes_on FineOutcome FineState (value form most answers make v s)
            (λ x. Done (state s.slots (written form owner p x.result x.writes) x.count)) (value_comes s fine v)
            (λ x so. (fine.0, written_fine owner p x.result x.writes is so.1 so.0)))
        step_comes (If c first second) s fine =
            comes_on SomeAnswer FineState (holds form most answers s c)
            (λ b. (if b then run form most answers make first s else run form most answers make second s) >>= (λ t. Done (ended s t)))
            (holds_comes form most variables answers s fine c)
            (λ b any. comes_on FineState FineState (if b then run form most answers make first s else run form most answers make second s)
            (λ t. Done (ended s t))
            (comes_if FineState b (run form most answers make first s) (run form most answers make second s) (run_comes first s fine) (run_comes second s fine))
            (λ t so. (take_fine (length s.slots) t.slots so.0, so.1)))

        run_comes : (xs : Statements) (s : State) → FineState s → Comes FineState (run form most answers make xs s)
        run_comes none s fine = fine
        run_comes (a ▸ xs) s fine =
            comes_on FineState FineState (step form most answers make a s) (λ t. run form most answers make xs t) (step_comes a s fine)
            (λ t so. run_comes xs t so)

      returned_comes : (s : State) → FineState s → (v : Option Source) → Comes FineOutcome (returned form most answers make v s)
      returned_comes s fine None = (fine.1, tt)
      returned_comes s fine (Some v) = value_comes s fine v

    made_comes : (depth : ℕ) → FineMaking (made form most answers depth)
    made_comes zero class vs ws count fine writes = (writes, tt)
    made_comes (suc depth) class vs ws count fine writes =
        comes_on FineState FineOutcome
        (run form most answers (made form most answers depth) (body_of form (constructor_of form class))
        (state (Fresh class count ∷ vs) ws (suc count))) (λ s. Done (outcome s.writes s.count (Fresh class count)))
        (run_comes (made form most answers depth) (made_comes depth) (body_of form (constructor_of form class))
        (state (Fresh class count ∷ vs) ws (suc count)) ((tt, fine), writes))
        (λ s so. (so.1, tt))

    pub called_comes : (m : Method) (args : List Value) → AllFine args → Comes FineOutcome (called form most answers m args)
    called_comes m args fine =
        comes_if FineOutcome m.constructor (made form most answers (length form.classes) m.class args [] 0)
        (run form most answers (made form most answers (length form.classes)) (statements_of m.body) (state args [] 0)
        >>= (λ s. returned form most answers (made form most answers (length form.classes)) m.value s))
        (made_comes (length form.classes) m.class args [] 0 fine tt)
        (comes_on FineState FineOutcome (run form most answers (made form most answers (length form.classes)) (statements_of m.body) (state args [] 0))
        (λ s. returned form most answers (made form most answers (length form.classes)) m.value s)
        (run_comes (made form most answers (length form.classes)) (made_comes (length form.classes)) (statements_of m.body) (state args [] 0) (fine, tt))
        (λ s so. returned_comes (made form most answers (length form.classes)) (made_comes (length form.classes)) s so m.value))

    pub cube_comes : (ws : List values.Write) (vs : List Value) → FineWrites ws → AllFine vs → (ls : List Literal)
        → Comes SomeAnswer (cube_after form most answers ws vs ls)
    cube_comes ws vs fine are [] = tt
    cube_comes ws vs fine are (l ∷ ls) =
        comes_on SomeAnswer SomeAnswer (literal_after form most answers ws vs l) (λ b. if b then cube_after form most answers ws vs ls else Done false)
        (comes_on IsFine SomeAnswer (term_after form most answers ws vs l.less)
        (λ v. term_after form most answers ws vs l.more >>= (λ w. are_same answers v w >>= (λ same. Done (if l.same then same else not same))))
        (told.led_comes form most variables answers ws fine l.less.fields (slice_index_or vs l.less.var.0 Nothing)
        (told.slot_fine form most variables answers vs l.less.var.0 are))
        (λ v is. comes_on IsFine SomeAnswer (term_after form most answers ws vs l.more)
        (λ w. are_same answers v w >>= (λ same. Done (if l.same then same else not same)))
        (told.led_comes form most variables answers ws fine l.more.fields (slice_index_or vs l.more.var.0 Nothing)
        (told.slot_fine form most variables answers vs l.more.var.0 are))
        (λ w also. comes_on SomeAnswer SomeAnswer (are_same answers v w) (λ same. Done (if l.same then same else not same))
        (told.are_same_comes form most variables answers v w is also) (λ same any. tt))))
        (λ b any. comes_if SomeAnswer b (cube_after form most answers ws vs ls) (Done false) (cube_comes ws vs fine are ls) tt)

  -- a question that asks so has a tree that does
  pub asks_terms : (question : List Answer → Stage Bool) → ((answers : List Answer) → Comes SomeAnswer (question answers))
      → (tree : Tree) (answers : List Answer) → IsTreeBehind question answers tree → AsksTerms form most variables tree
  asks_terms question comes (Leaf b) answers is = tt
  asks_terms question comes (Ask t u x y) answers is =
      let so : Comes SomeAnswer (Needs t u) = subst (Comes SomeAnswer) is.0 (comes answers) in
      (so.0, so.1, so.2, asks_terms question comes x (answers ++ said t u true ∷ []) is.1, asks_terms question comes y (answers ++ said t u false ∷ []) is.2)
