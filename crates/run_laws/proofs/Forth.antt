-- A walk that leads from state to state is a piece of a run, and so is what leads to a procedure's entry.
use Rattle.std.proofs.Common.{◌≡◌, ℕ, zero, suc, ◌+◌, ◌-◌, Bool, true, false, List, [], ◌∷◌, ◌++◌}
use Rattle.std.proofs.Common.{length, refl, sym, ap, subst, ◌∙◌, arith, append_assoc, le-leb}
use Rattle.std.specs.Prelude.{Option, Some, None, if◌then◌else◌, nat_le}
use Rattle.std.specs.Option.{option_map_or}
use Rattle.client_facts.specs.Setting.{IsCall, IsOutcome, IsStep, Setting, exit_of, way}
use Rattle.client_model.specs.declared.form.Point.{Point}
use Rattle.client_model.specs.declared.form.Point.TheVariants as point
use Rattle.client_run.specs.Graph.{AreAgreed, is_test}
use Rattle.client_run.specs.Places.{Comes, Ended, Goes, Waiting, ended, entering, goes, onward, place, turn_at, turn_by, turn_of, waiting}
use Rattle.client_steps.specs.Deeds.{Broke, Deed, Did, done, done_at}
use Rattle.client_steps.specs.Runs.{Cut, Fails, Moment, On, Outcome, Stops, called_from, charged}
use Rattle.client_steps.specs.States.{Call, State, at_first, call_in, entered, point_at, returned}
use Rattle.client_walks.specs.Paths.{Entry, LeadsIn, choices_in, start}
use Rattle.client_walks.specs.Paths as paths
use Rattle.client_walks.specs.Walks.{Leads, Walk, choices_on, outcome_at}
use Rattle.client_walks.specs.Walks as walk
use Rattle.run_laws.proofs.Exits.{exit_closed, no_call, way_found, ways_there}
use Rattle.run_laws.specs.Breaks.{Breaks}

abbrev pub moment : State → List Bool → ℕ → Moment
moment s choices budget = record { state = s; choices = choices; budget = budget }

-- what is done takes its units
charged_did : (d : Deed) (s t : State) (choices : List Bool) (k b : ℕ) → d ≡ Did t k → charged d (moment s choices (k + b)) ≡ On (moment t choices b)
charged_did d s t choices k b is =
    let back : (k + b) - k ≡ b = omega arith in
    let enough : nat_le k (k + b) ≡ true = le-leb k (k + b) (omega arith) in
    ap (λ d. charged d (moment s choices (k + b))) is
    ∙ ap (λ so. if so then On (moment t choices ((k + b) - k)) else Stops Cut) enough
    ∙ ap (λ left. On (moment t choices left)) back

-- the units before a procedure call that leaves so many
abbrev paid : ℕ → ℕ → ℕ → ℕ
paid zero zero b = suc b
paid zero (suc main) b = b
paid (suc p) callee b = suc b

called_paid : (p callee : ℕ) (s : State) (rest : List Bool) (b : ℕ) → called_from p callee (moment s rest (paid p callee b)) ≡ On (moment s rest b)
called_paid zero zero s rest b = refl
called_paid zero (suc main) s rest b = refl
called_paid (suc p) callee s rest b = refl

pub onward_stops : (p : ℕ) (behind : List Waiting) (ways : ℕ × ℕ) (test : Bool) (o : Outcome) → onward p behind ways test (Stops o) ≡ Ended o
onward_stops p behind ways true o = refl
onward_stops p behind ways false o = refl

plain_taken : (p : ℕ) (behind : List Waiting) (ways : ℕ × ℕ) (b : Bool) (m : ℕ) (v : Moment) → b ≡ true → way b ways ≡ m →
    Goes (place p ways.0 behind v) ≡ Goes (place p m behind v)
plain_taken p behind ways b m v is to = ap (λ l. Goes (place p l behind v)) (ap (λ c. way c ways) (sym is) ∙ to)

-- a step goes on where the outcome that is taken says
onward_taken : (p : ℕ) (behind : List Waiting) (ways : ℕ × ℕ) (b : Bool) (m : ℕ) (x : Point) (t : State) (rest : List Bool) (left : ℕ) → IsOutcome x b →
    way b ways ≡ m → onward p behind ways (is_test (Some x)) (On (moment t (outcome_at (Some x) b ++ rest) left)) ≡ Goes (place p m behind (moment t rest left))
onward_taken p behind ways true m (point.Branch call) t rest left outcome to = ap (λ l. Goes (place p l behind (moment t rest left))) to
onward_taken p behind ways false m (point.Branch call) t rest left outcome to = ap (λ l. Goes (place p l behind (moment t rest left))) to
onward_taken p behind ways b m (point.Copy target source) t rest left outcome to = plain_taken p behind ways b m (moment t rest left) outcome to
onward_taken p behind ways b m (point.Component target call) t rest left outcome to = plain_taken p behind ways b m (moment t rest left) outcome to
onward_taken p behind ways b m (point.Call target callee args place) t rest left outcome to = plain_taken p behind ways b m (moment t rest left) outcome to
onward_taken p behind ways b m point.Nothing t rest left outcome to = plain_taken p behind ways b m (moment t rest left) outcome to

module _ (g : Setting) where
  -- the turn of a step
  step_turn : (p n m : ℕ) (b : Bool) (behind : List Waiting) (s t : State) (rest : List Bool) (k left : ℕ) → IsStep g p n b m →
      done_at g.form g.client p n s ≡ Did t k →
      turn_of g.form g.client (place p n behind (moment s (outcome_at (point_at g.client p n) b ++ rest) (suc (k + left))))
      ≡ Goes (place p m behind (moment t rest left))
  step_turn p n m b behind s t rest k left is does =
      let ways = way_found g p n b m is.goes in
      let choices : List Bool = outcome_at (point_at g.client p n) b ++ rest in
      ap (turn_by g.form g.client p n behind (moment s choices (suc (k + left)))) ways.1
      ∙ ap (turn_at g.form g.client p n behind (moment s choices (suc (k + left))) ways.0) (no_call g.client p n is.here is.is is.plain)
      ∙ ap (onward p behind ways.0 (is_test (point_at g.client p n))) (charged_did (done_at g.form g.client p n s) s t choices k left does)
      ∙ ap (λ o. onward p behind ways.0 (is_test o) (On (moment t (outcome_at o b ++ rest) left))) is.is
      ∙ onward_taken p behind ways.0 b m is.here t rest left is.outcome ways.2

  -- the turn of a procedure call
  call_turn : (p n m : ℕ) (k : Call) (behind : List Waiting) (s : State) (rest : List Bool) (left : ℕ) → IsCall g p n k m →
      turn_of g.form g.client (place p n behind (moment s rest (paid p k.callee left)))
      ≡ Goes (place k.callee 0 (waiting p m k s ∷ behind) (moment (entered g.client k s) rest left))
  call_turn p n m k behind s rest left is =
      let ways = way_found g p n true m is.goes in
      ap (turn_by g.form g.client p n behind (moment s rest (paid p k.callee left))) ways.1
      ∙ ap (turn_at g.form g.client p n behind (moment s rest (paid p k.callee left)) ways.0) is.call
      ∙ ap (entering g.client k (waiting p ways.0.0 k s ∷ behind)) (called_paid p k.callee s rest left)
      ∙ ap (λ l. Goes (place k.callee 0 (waiting p l k s ∷ behind) (moment (entered g.client k s) rest left))) ways.2

  broke_point : (p n : ℕ) (s : State) (call clause : ℕ) → done_at g.form g.client p n s ≡ Broke call clause →
      (x : Point) × (point_at g.client p n ≡ Some x) × (call_in x ≡ None)
  broke_point p n s call clause broke = of_point (point_at g.client p n) refl broke
    where
      of_kind : (x : Point) → point_at g.client p n ≡ Some x → done g.form g.client x s ≡ Broke call clause →
          (y : Point) × (point_at g.client p n ≡ Some y) × (call_in y ≡ None)
      of_kind (point.Copy target source) at is = absurd cc
      of_kind (point.Component target number) at is = (point.Component target number, at, refl)
      of_kind (point.Call target callee args place) at is = absurd cc
      of_kind (point.Branch number) at is = (point.Branch number, at, refl)
      of_kind point.Nothing at is = absurd cc

      of_point : (o : Option Point) → point_at g.client p n ≡ o → option_map_or (λ x. done g.form g.client x s) o (Did s 0) ≡ Broke call clause →
          (y : Point) × (point_at g.client p n ≡ Some y) × (call_in y ≡ None)
      of_point None at is = absurd cc
      of_point (Some x) at is = of_kind x at is

module _ (g : Setting) (agreed : AreAgreed g.client) where
  abbrev pub At : ℕ → ℕ → List Waiting → Moment → Outcome → Type 0
  At p n behind m o = Comes g.form g.client (place p n behind m) o

  -- a run that goes on behind a walk is one from its beginning, with more units
  abbrev Reaches : (p n : ℕ) → List Bool → State → State → Type 0
  Reaches p n taken s t =
      (cost : ℕ → ℕ) × ((behind : List Waiting) (rest : List Bool) (b : ℕ) (o : Outcome) → At p n behind (moment t rest b) o →
      At p 0 behind (moment s (taken ++ rest) (cost b)) o)

  -- the turn at the exit of what was called
  left_comes : (p next : ℕ) (k : Call) (s t : State) (behind : List Waiting) (rest : List Bool) (b : ℕ) (o : Outcome) →
      At p next behind (moment (returned k s t) rest b) o → At k.callee (exit_of g k.callee) (waiting p next k s ∷ behind) (moment t rest b) o
  left_comes p next k s t behind rest b o comes =
      goes (place k.callee (exit_of g k.callee) (waiting p next k s ∷ behind) (moment t rest b)) (place p next behind (moment (returned k s t) rest b)) o
      (ap (turn_by g.form g.client k.callee (exit_of g k.callee) (waiting p next k s ∷ behind) (moment t rest b)) (exit_closed g.client agreed k.callee)) comes

  walk_comes : (p n : ℕ) (w : Walk g p n) (s t : State) → Leads g p n w s t → Reaches p n (choices_on g p n w) s t
  walk_comes p n (walk.begin q) s t leads = (λ b. b, λ behind rest b o comes. subst (λ u. At q 0 behind (moment u rest b) o) (sym leads) comes)
  walk_comes p n (walk.step q l m out w is) s t leads =
      let earlier : Reaches q l (choices_on g q l w) s leads.0 = walk_comes q l w s leads.0 leads.1 in (
        λ b. earlier.0 (suc (leads.2.0 + b)),
        λ behind rest b o comes.
            let here : At q l behind (moment leads.0 (outcome_at (point_at g.client q l) out ++ rest) (suc (leads.2.0 + b))) o =
            goes (place q l behind (moment leads.0 (outcome_at (point_at g.client q l) out ++ rest) (suc (leads.2.0 + b))))
            (place q m behind (moment t rest b)) o (step_turn g q l m out behind leads.0 t rest leads.2.0 b is leads.2.1) comes
            in
            subst (λ cs. At q 0 behind (moment s cs (earlier.0 (suc (leads.2.0 + b)))) o)
            (sym (append_assoc (choices_on g q l w) (outcome_at (point_at g.client q l) out) rest))
            (earlier.1 behind (outcome_at (point_at g.client q l) out ++ rest) (suc (leads.2.0 + b)) o here),
      )
  walk_comes p n (walk.call q l m k w is inner) s t leads =
      let earlier : Reaches q l (choices_on g q l w) s leads.0 = walk_comes q l w s leads.0 leads.2 in
      let along : Reaches k.callee (exit_of g k.callee) (choices_on g k.callee (exit_of g k.callee) inner) (entered g.client k leads.0) leads.1 =
      walk_comes k.callee (exit_of g k.callee) inner (entered g.client k leads.0) leads.1 leads.3
      in
      let done_inside : List Bool = choices_on g k.callee (exit_of g k.callee) inner in (
        λ b. earlier.0 (paid q k.callee (along.0 b)),
        λ behind rest b o comes.
            let out : At k.callee (exit_of g k.callee) (waiting q m k leads.0 ∷ behind) (moment leads.1 rest b) o =
            left_comes q m k leads.0 leads.1 behind rest b o (subst (λ u. At q m behind (moment u rest b) o) (sym leads.4) comes)
            in
            let here : At q l behind (moment leads.0 (done_inside ++ rest) (paid q k.callee (along.0 b))) o =
            goes (place q l behind (moment leads.0 (done_inside ++ rest) (paid q k.callee (along.0 b))))
            (place k.callee 0 (waiting q m k leads.0 ∷ behind) (moment (entered g.client k leads.0) (done_inside ++ rest) (along.0 b))) o
            (call_turn g q l m k behind leads.0 (done_inside ++ rest) (along.0 b) is)
            (along.1 (waiting q m k leads.0 ∷ behind) rest b o out)
            in
            subst (λ cs. At q 0 behind (moment s cs (earlier.0 (paid q k.callee (along.0 b)))) o) (sym (append_assoc (choices_on g q l w) done_inside rest))
            (earlier.1 behind (done_inside ++ rest) (paid q k.callee (along.0 b)) o here),
      )

  -- a run that goes on at the entry of a procedure is one from the first initialiser, with more units
  abbrev Begins : (p : ℕ) → List Bool → State → Type 0
  Begins p taken s =
      (cost : ℕ → ℕ) × (behind : List Waiting) × ((rest : List Bool) (b : ℕ) (o : Outcome) → At p 0 behind (moment s rest b) o →
      At 0 0 [] (moment (at_first g.client) (taken ++ rest) (cost b)) o)

  entry_comes : (p : ℕ) (into : Entry g p) (s : State) → LeadsIn g p into (at_first g.client) s → Begins p (choices_in g p into) s
  entry_comes p start s leads = (λ b. b, [], λ rest b o comes. subst (λ u. At 0 0 [] (moment u rest b) o) (sym leads) comes)
  entry_comes p (paths.inside q n m k into w is) s leads =
      let earlier : Begins q (choices_in g q into) leads.0 = entry_comes q into leads.0 leads.2 in
      let along : Reaches q n (choices_on g q n w) leads.0 leads.1 = walk_comes q n w leads.0 leads.1 leads.3 in (
        λ b. earlier.0 (along.0 (paid q k.callee b)),
        waiting q m k leads.1 ∷ earlier.1,
        λ rest b o comes.
            let here : At q n earlier.1 (moment leads.1 rest (paid q k.callee b)) o =
            goes (place q n earlier.1 (moment leads.1 rest (paid q k.callee b)))
            (place k.callee 0 (waiting q m k leads.1 ∷ earlier.1) (moment (entered g.client k leads.1) rest b)) o
            (call_turn g q n m k earlier.1 leads.1 rest b is)
            (subst (λ u. At k.callee 0 (waiting q m k leads.1 ∷ earlier.1) (moment u rest b) o) (sym leads.4) comes)
            in
            subst (λ cs. At 0 0 [] (moment (at_first g.client) cs (earlier.0 (along.0 (paid q k.callee b)))) o)
            (sym (append_assoc (choices_in g q into) (choices_on g q n w) rest))
            (earlier.2 (choices_on g q n w ++ rest) (along.0 (paid q k.callee b)) o (along.1 earlier.1 rest (paid q k.callee b) o here)),
      )

  -- the turn in which a clause is false
  end_comes : (p n : ℕ) (behind : List Waiting) (t : State) (call clause : ℕ) (rest : List Bool) → done_at g.form g.client p n t ≡ Broke call clause →
      At p n behind (moment t rest 1) (Fails call clause (length rest))
  end_comes p n behind t call clause rest broke =
      let there = broke_point g p n t call clause broke in
      let ways = ways_there g.client agreed p n there.0 there.1 in
      ended (place p n behind (moment t rest 1)) (Fails call clause (length rest))
      (ap (turn_by g.form g.client p n behind (moment t rest 1)) ways.1
      ∙ ap (turn_at g.form g.client p n behind (moment t rest 1) ways.0) (no_call g.client p n there.0 there.1 there.2)
      ∙ ap (λ d. onward p behind ways.0 (is_test (point_at g.client p n)) (charged d (moment t rest 0))) broke
      ∙ onward_stops p behind ways.0 (is_test (point_at g.client p n)) (Fails call clause (length rest)))

  -- a path that breaks a clause is a run from point to point that fails
  pub breaks_come : (call clause : ℕ) (choices rest : List Bool) → Breaks g call clause choices →
      (budget : ℕ) × At 0 0 [] (moment (at_first g.client) (choices ++ rest) budget) (Fails call clause (length rest))
  breaks_come call clause choices rest b =
      let enters : Begins b.procedure (choices_in g b.procedure b.path.entry) b.leads.0 =
      entry_comes b.procedure b.path.entry b.leads.0 b.leads.1
      in
      let walks : Reaches b.procedure b.point (choices_on g b.procedure b.point b.path.walk) b.leads.0 b.state =
      walk_comes b.procedure b.point b.path.walk b.leads.0 b.state b.leads.2
      in
      let into : List Bool = choices_in g b.procedure b.path.entry in
      let along : List Bool = choices_on g b.procedure b.point b.path.walk in
      let last : At b.procedure 0 enters.1 (moment b.leads.0 (along ++ rest) (walks.0 1)) (Fails call clause (length rest)) =
      walks.1 enters.1 rest 1 (Fails call clause (length rest)) (end_comes b.procedure b.point enters.1 b.state call clause rest b.broke)
      in (
        enters.0 (walks.0 1),
        subst (λ cs. At 0 0 [] (moment (at_first g.client) (cs ++ rest) (enters.0 (walks.0 1))) (Fails call clause (length rest))) (sym b.taken)
            (subst (λ cs. At 0 0 [] (moment (at_first g.client) cs (enters.0 (walks.0 1))) (Fails call clause (length rest)))
            (sym (append_assoc into along rest)) (enters.2 (along ++ rest) (walks.0 1) (Fails call clause (length rest)) last)),
      )
