-- What is written of the items of a client, one after another.
use Rattle.std.proofs.Common.{◌≡◌, ℕ, suc, ◌+◌, ◌∷◌, ◌++◌, [], Bool, true, false, List, ap, arith, drop, map, sym, ◌∙◌}
use Rattle.std.proofs.lemmas.List.{append-nil, map-append}
use Rattle.std.specs.Prelude.{Some, filter_map, slice_get}
use Rattle.client_bodies.proofs.InOrder.{procedure_next, static_next}
use Rattle.client_bodies.specs.InTextOrder.{nothing_yet}
use Rattle.client_model.specs.Statements.{Assign}
use Rattle.client_model.specs.declared.form.CallSite.{CallSite}
use Rattle.client_model.specs.declared.form.Point.{Point}
use Rattle.client_model.specs.declared.form.Procedure.{Procedure}
use Rattle.client_model.specs.declared.tree.Proc.{Proc}
use Rattle.client_model.specs.declared.tree.Static.{Static}
use Rattle.client_points.proofs.WholeForm.{both_bodies}
use Rattle.client_points.specs.Wholes.{AreBodies, Whole, sets_by, unset_seen, with_bodies, without_set}
use Rattle.client_points.specs.Writing.{at, written_with}
use Rattle.client_points.specs.declared.whole.Bodies.{Bodies}
use Rattle.client_points.specs.declared.written.Written.{Written}
use Rattle.client_model.specs.Bodies.{all_in, before_initialiser, bodies_from, bodies_of, body_of, end_of, initialiser}
use Rattle.client_model.specs.CheckedForm.{ProcedureForm, procedure_form}
use Rattle.client_model.specs.Contexts.{call_count}
use Rattle.client_model.specs.Points.{point_of, site_at}
use Rattle.client_model.specs.Rules.{faults_of_bodies}
use Rattle.client_model.specs.Settings.{Setting, class_in, setting_of}
use Rattle.client_model.specs.Trees.{Client, Item, Procedure as ProcedureItem, items_of, procedure_of}
use Rattle.easl_model.specs.Form.{Form}

-- what was written, and what is written of items
abbrev All : Setting → Whole → ℕ → ℕ → ℕ → List Item → Whole
All s w static procedure calls items = with_bodies s.form (bodies_from s static procedure calls items) w

-- an initialiser that is written
pub initialiser_own : (s : Setting) (number calls : ℕ) (x : Static) (old new : Written) (forms : List ProcedureForm)
    → new ≡ written_with (at s (before_initialiser s number calls) (Assign x.name x.value) ∷ []) old
    → (record { initial = new.points; procedures = forms; calls = new.calls })
    ≡ with_bodies s.form (initialiser s number calls x ∷ []) (record { initial = old.points; procedures = forms; calls = old.calls })
initialiser_own s number calls x old new forms is =
    let own = at s (before_initialiser s number calls) (Assign x.name x.value) ∷ [] in
    ap (λ (w : Written). record { initial = w.points; procedures = forms; calls = w.calls }) is
    ∙ ap (λ fs. record { initial = old.points ++ map point_of own; procedures = fs; calls = old.calls ++ filter_map site_at own }) (sym (append-nil forms))

pub initialiser_written : (s : Setting) (order : List Bool) (ss : List Static) (ps : List Proc) (number next procedure calls behind : ℕ) (x : Static) (old new : Whole)
    → Some x ≡ slice_get ss number → suc number ≡ next → calls + call_count x.value ≡ behind
    → new ≡ with_bodies s.form (initialiser s number calls x ∷ []) old
    → All s new next procedure behind (items_of order (drop next ss) ps) ≡ All s old number procedure calls (items_of (true ∷ order) (drop number ss) ps)
initialiser_written s order ss ps number next procedure calls behind x old new there more counted own =
    let b = initialiser s number calls x in
    let rest = bodies_from s (suc number) procedure (calls + call_count x.value) (items_of order (drop (suc number) ss) ps) in
    sym (ap (λ n. All s new n procedure behind (items_of order (drop n ss) ps)) more)
    ∙ sym (ap (λ k. All s new (suc number) procedure k (items_of order (drop (suc number) ss) ps)) counted)
    ∙ ap (with_bodies s.form rest) own
    ∙ sym (both_bodies s.form (b ∷ []) rest old)
    ∙ sym (ap (All s old number procedure calls) (static_next order ss ps number x (sym there)))

-- a procedure that is written
pub procedure_own : (s : Setting) (number count : ℕ) (p : Proc) (points : List Point) (forms more : List Procedure) (calls all : List CallSite) (f : Procedure)
    → more ≡ forms ++ f ∷ []
    → unset_seen f ≡ without_set (procedure_form s.form (body_of s number count (procedure_of p)) (procedure_of p))
    → all ≡ calls ++ filter_map site_at (all_in (body_of s number count (procedure_of p)))
    → (record { initial = points; procedures = map unset_seen more; calls = all })
    ≡ with_bodies s.form (body_of s number count (procedure_of p) ∷ []) (record { initial = points; procedures = map unset_seen forms; calls = calls })
procedure_own s number count p points forms more calls all f pushed made written =
    let b = body_of s number count (procedure_of p) in
    let own = without_set (procedure_form s.form b (procedure_of p)) in
    ap (λ ps. record { initial = ps; procedures = map unset_seen more; calls = all }) (sym (append-nil points))
    ∙ ap (λ fs. record { initial = points ++ []; procedures = fs; calls = all })
    (ap (map unset_seen) pushed ∙ map-append unset_seen forms (f ∷ []) ∙ ap (λ g. map unset_seen forms ++ g ∷ []) made)
    ∙ ap (λ cs. record { initial = points ++ []; procedures = map unset_seen forms ++ own ∷ []; calls = cs })
    (written ∙ ap (λ xs. calls ++ filter_map site_at xs) (sym (append-nil (all_in b))))

pub procedure_written : (s : Setting) (order : List Bool) (ss : List Static) (ps : List Proc) (static before number calls behind : ℕ) (p : Proc) (old new : Whole)
    → Some p ≡ slice_get ps before → number ≡ before + 1
    → behind ≡ (end_of (body_of s number calls (procedure_of p))).calls
    → new ≡ with_bodies s.form (body_of s number calls (procedure_of p) ∷ []) old
    → All s new static (suc number) behind (items_of order ss (drop number ps)) ≡ All s old static (suc before) calls (items_of (false ∷ order) ss (drop before ps))
procedure_written s order ss ps static before number calls behind p old new there is counted own =
    let more : number ≡ suc before = omega arith in
    let b = body_of s number calls (procedure_of p) in
    let rest = bodies_from s static (suc number) (end_of b).calls (items_of order ss (drop number ps)) in
    ap (λ k. All s new static (suc number) k (items_of order ss (drop number ps))) counted
    ∙ ap (with_bodies s.form rest) own
    ∙ sym (both_bodies s.form (b ∷ []) rest old)
    ∙ ap (λ n. All s old static n calls (ProcedureItem (procedure_of p) ∷ items_of order ss (drop n ps))) more
    ∙ sym (ap (All s old static (suc before) calls) (procedure_next order ss ps before p (sym there)))

-- where nothing is passed
pub none_written : (s : Setting) (w : Whole) (static procedure calls : ℕ) (items others : List Item) → items ≡ others → All s w static procedure calls items
    ≡ All s w static procedure calls others
none_written s w static procedure calls items others = ap (All s w static procedure calls)

-- before the first item
pub all_begun : (s : Setting) (order : List Bool) (ss : List Static) (ps : List Proc) (w : Whole) (static calls : ℕ) → w ≡ nothing_yet → 0 ≡ static → 0 ≡ calls
    → All s w static 1 calls (items_of order (drop static ss) ps) ≡ All s nothing_yet 0 1 0 (items_of order ss ps)
all_begun s order ss ps w static calls empty first none =
    ap (λ v. All s v static 1 calls (items_of order (drop static ss) ps)) empty
    ∙ sym (ap (λ n. All s nothing_yet n 1 calls (items_of order (drop n ss) ps)) first)
    ∙ sym (ap (λ k. All s nothing_yet 0 1 k (items_of order ss ps)) none)

-- behind the last
pub bodies_are : (form : Form) (client : Client) (b : Bodies) (w : Whole) → b.statics ≡ map (λ v. class_in v.kind) (setting_of form client).statics
    → w ≡ with_bodies form (bodies_from (setting_of form client) 0 1 0 client.items) nothing_yet
    → b.initial ≡ w.initial → map unset_seen b.procedures ≡ w.procedures → b.calls ≡ w.calls
    → (faults_of_bodies form client ≡ [] → map (λ p. p.set) b.procedures ≡ filter_map (λ x. sets_by x x.item) (bodies_of form client))
    → AreBodies form client b
bodies_are form client b w statics is initial procedures calls sets = record {
  statics = statics;
  initial = initial ∙ ap (λ v. v.initial) is;
  procedures = procedures ∙ ap (λ v. v.procedures) is;
  sets = sets;
  calls = calls ∙ ap (λ v. v.calls) is;
}
