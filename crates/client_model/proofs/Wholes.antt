-- In a body that breaks no rule names are kept along each step from point to point.
use Rattle.std.proofs.Common.{◌≡◌, ℕ, zero, suc, ◌+◌, Bool, true, false, not, List, [], ◌∷◌, ◌++◌, length, refl, sym, ap, ◌∙◌, subst, append_assoc, length-append}
use Rattle.std.specs.Prelude.{flat_map, map, slice_index_or}
use Rattle.std.specs.List.{AllZip, range_with_len}
use Rattle.std.proofs.lemmas.List.FromFn.{length-range_with_len}
use Rattle.client_model.proofs.Kept as kept
use Rattle.client_model.proofs.Numbering.{points_numbered}
use Rattle.client_model.proofs.Steps.{Agree, Fine, InLoop, steps_all}
use Rattle.client_model.specs.Bodies.{all_in}
use Rattle.client_model.specs.BodyFaults.{faults_at, faults_of_statement, unreachable}
use Rattle.client_model.specs.Contexts.{Assigned, Context, Everything, Situated, These}
use Rattle.client_model.specs.Faults.{OutsideLoop, broken_if, fault}
use Rattle.client_model.specs.Kept.{Behind, StepKeeps, StepsKeepNames, assigned_at}
use Rattle.client_model.specs.Nodes.{count, shape_from}
use Rattle.client_model.specs.Points.{assigned_at_exit}
use Rattle.client_model.specs.Settings.{Setting}
use Rattle.client_model.specs.Statements.{Statement, Declare, Assign, Do, If, While, Break, Continue, Return}
use Rattle.client_model.specs.Ways.{Ways, ways_of}
use Rattle.easl_model.proofs.None.{none_of_both}
use Rattle.easl_model.specs.declared.place.Place.{Place}

abbrev IsEmpty : {A : Type 0} → List A → Type 0
IsEmpty [] = Unit {0}
IsEmpty (x ∷ xs) = ⊥

pub not_empty : {A : Type 0} (x : A) (xs : List A) → x ∷ xs ≡ [] → ⊥
not_empty x xs h = subst IsEmpty (sym h) tt

pub looped_by : (looped : Bool) (place : Place) → broken_if (not looped) OutsideLoop place ≡ [] → looped ≡ true
looped_by true place h = refl
looped_by false place h = absurd (not_empty (fault OutsideLoop place) [] h)

in_loop_by : (s : Setting) (c : Context) (x : Statement) → faults_of_statement s c x ≡ [] → InLoop c x
in_loop_by s c (Declare place sort w v) h = tt
in_loop_by s c (Assign w v) h = tt
in_loop_by s c (Do v) h = tt
in_loop_by s c (If place t first second has_else) h = tt
in_loop_by s c (While place t inner) h = tt
in_loop_by s c (Break place) h = looped_by c.looped place h
in_loop_by s c (Continue place) h = looped_by c.looped place h
in_loop_by s c (Return r) h = tt

-- a table of what is assigned

abbrev at : List Assigned → ℕ → Assigned
at table point = slice_index_or table point Everything

at_front : (front : List Assigned) (a : Assigned) (rest : List Assigned) → at (front ++ a ∷ rest) (length front) ≡ a
at_front [] a rest = refl
at_front (x ∷ front) a rest = at_front front a rest

abbrev points_in : List Situated → List ℕ
points_in zs = map (λ z. z.context.points) zs

abbrev assigned_by : List Situated → List Assigned
assigned_by zs = map (λ z. z.context.assigned) zs

abbrev head_or : List ℕ → ℕ → ℕ
head_or [] d = d
head_or (x ∷ xs) d = x

abbrev tail_of : List ℕ → List ℕ
tail_of [] = []
tail_of (x ∷ xs) = xs

fine_from : (front : List Assigned) (zs : List Situated) (rest : List Assigned) (n : ℕ) → points_in zs ≡ range_with_len (length front) n →
    flat_map faults_at zs ≡ [] → Fine (at (front ++ (assigned_by zs ++ rest))) zs
fine_from front [] rest n numbered free = tt
fine_from front (z ∷ zs) rest zero numbered free = absurd (not_empty z.context.points (points_in zs) numbered)
fine_from front (z ∷ zs) rest (suc n) numbered free =
    let faults : (faults_at z ≡ []) × (flat_map faults_at zs ≡ []) = none_of_both (faults_at z) (flat_map faults_at zs) free in
    let own : (unreachable z.context z.statement ≡ []) × (faults_of_statement z.setting z.context z.statement ≡ []) =
    none_of_both (unreachable z.context z.statement) (faults_of_statement z.setting z.context z.statement) faults.0 in
    let point : z.context.points ≡ length front = ap (λ l. head_or l 0) numbered in
    let more : points_in zs ≡ range_with_len (length front + 1) n = ap tail_of numbered in
    let longer : length front + 1 ≡ length (front ++ z.context.assigned ∷ []) = sym (length-append front (z.context.assigned ∷ [])) in
    let split : (front ++ z.context.assigned ∷ []) ++ (assigned_by zs ++ rest) ≡ front ++ (z.context.assigned ∷ (assigned_by zs ++ rest)) =
    append_assoc front (z.context.assigned ∷ []) (assigned_by zs ++ rest) in
    let others : Fine (at ((front ++ z.context.assigned ∷ []) ++ (assigned_by zs ++ rest))) zs =
    fine_from (front ++ z.context.assigned ∷ []) zs rest n (more ∙ ap (λ k. range_with_len k n) longer) faults.1 in (
      (
        ap (at (front ++ (z.context.assigned ∷ (assigned_by zs ++ rest)))) point ∙ at_front front z.context.assigned (assigned_by zs
            ++ rest),
        in_loop_by z.setting z.context z.statement own.1,
      ),
      subst (λ table. Fine (at table) zs) split others,
    )

length_of : (zs : List Situated) → length (points_in zs) ≡ length (assigned_by zs)
length_of [] = refl
length_of (z ∷ zs) = ap suc (length_of zs)

abbrev Tells : Bool → Type 0
Tells true = ⊥
Tells false = Unit {0}

pub steps_keep : StepsKeepNames
steps_keep b whole free =
    let zs : List Situated = all_in b in
    let exit : Assigned = assigned_at_exit b in
    let many : ℕ = count b.statements in
    let numbered : points_in zs ≡ range_with_len 0 many = points_numbered b.setting b.start b.statements ∙ ap (λ k. range_with_len k many) whole.start in
    let long : length (assigned_by zs) ≡ many = sym (length_of zs) ∙ ap length numbered ∙ length-range_with_len 0 many in
    let at_exit : assigned_at b many ≡ exit = ap (assigned_at b) (sym long) ∙ at_front (assigned_by zs) exit [] in
    let w : Ways = record { on = many; broken = many; again = many; exit = many } in
    let behind : Behind = record { on = exit; broken = These []; again = These []; exit = exit } in
    let outside : b.start.looped ≡ true → ⊥ = λ is. subst Tells (sym whole.free ∙ is) tt in
    let agrees : Agree (assigned_at b) w behind b.start.looped = record {
      on = at_exit;
      broken = λ is. absurd (outside is);
      again =
          λ is. absurd (outside is);
      exit = at_exit;
    } in
    subst (λ p. AllZip (StepKeeps b) zs (ways_of w (shape_from p b.statements))) whole.start (steps_all
    (assigned_at b) b.setting b.start b.statements w behind (kept.bodies_keep_names b) agrees (fine_from [] zs (exit ∷ []) many numbered free))
