-- What is assigned behind an initialiser, and at the entry of a procedure.
use Rattle.std.proofs.Common.{◌≡◌, ℕ, zero, suc, ◌+◌, ◌<◌, ◌≤◌, ◌++◌, true, false, List, [], ◌∷◌, ap, arith, length, map, nat_lt, refl, subst, sym, take, ◌∙◌}
use Rattle.std.proofs.Common.{not}
use Rattle.std.proofs.lemmas.Bool.{le-ltb, lt-ltb}
use Rattle.std.proofs.lemmas.List.{append-nil, map-append}
use Rattle.std.specs.List.{list_any, range_with_len}
use Rattle.std.specs.Prelude.{◌==◌, ◌&&◌, ◌||◌, Some, None, if◌then◌else◌}
use Rattle.client_bodies.proofs.Coded.{codes_params, coded_at_entry}
use Rattle.client_bodies.specs.Walking.{Walks}
use Rattle.client_model.specs.SetNumbers.{AreNumbered}
use Rattle.client_model.proofs.StartSets.{codes_taken}
use Rattle.client_model.specs.Bodies.{at_entry, before_initialiser, codes_of, params_from}
use Rattle.client_model.specs.Codes.{static_code}
use Rattle.client_model.specs.Contexts.{evaluated, call_count}
use Rattle.client_model.specs.Settings.{Setting, Variable, statics_from}
use Rattle.client_model.specs.declared.tree.Rhs.{Rhs}
use Rattle.client_model.specs.declared.tree.Static.{Static}
use Rattle.client_values.specs.Knowing.{Knows}
use Rattle.client_values.specs.declared.context.Context.{Context}
use Rattle.easl_model.specs.Form.{Form}
use Rattle.easl_model.specs.declared.tree.Param.{Param}
use Rattle.set_names.proofs.Numbers.{below, range_more}
use Rattle.set_names.specs.Names.{Names, is_in, with_number}
use Rattle.set_names.specs.Sets.{codes_of as codes_by}

-- where there is no more to take
all_taken : (vs : List Variable) (k : ℕ) → length vs ≤ k → take k vs ≡ vs
all_taken [] zero few = refl
all_taken [] (suc k) few = refl
all_taken (v ∷ vs) zero few = absurd (omega arith)
all_taken (v ∷ vs) (suc k) few = ap (λ xs. v ∷ xs) (all_taken vs k (omega (arith, few)))

-- behind the initialiser of a static
pub marked : (s : Setting) (number calls : ℕ) (v : Rhs) (known : Context) (names : Names) → AreNumbered s → number < length s.statics
    → names ≡ record { statics = suc number; variables = 0; before = []; trail = []; left = None }
    → Knows (evaluated (Some v) (before_initialiser s number calls)) known → known.assigned.everything ≡ false
    → Knows (before_initialiser s (suc number) (calls + call_count v)) (record known { assigned = record known.assigned { names = names } })
marked s number calls v known names numbered inside is knows some =
    subst (λ m. Knows (before_initialiser s (suc number) (calls + call_count v)) (record known { assigned = record known.assigned { names = m } })) (sym is) (record {
      scope = knows.scope;
      assigned = λ n.
          ap (list_any (λ x. x == n)) (codes_taken s.statics 0 (suc number) numbered (omega (arith, inside)) ∙ sym (append-nil (map static_code (range_with_len 0 (suc number)))))
          ∙ ap (λ e. e || list_any (λ x. x == n) (codes_by (suc number) [])) (sym some);
      everything = sym some;
      reached = knows.reached;
      looped = knows.looped;
      variables = knows.variables;
      declared = refl;
      points = knows.points;
      calls = knows.calls;
    })

-- where there is no static of this number
pub unmarked : (s : Setting) (number calls : ℕ) (v : Rhs) (known : Context) → length s.statics ≤ number
    → Knows (evaluated (Some v) (before_initialiser s number calls)) known
    → Knows (before_initialiser s (suc number) (calls + call_count v)) known
unmarked s number calls v known past knows = record {
  scope = knows.scope;
  assigned = λ code.
      ap (λ xs. list_any (λ x. x == code) (codes_of xs)) (all_taken s.statics (suc number) (omega (arith, past)) ∙ sym (all_taken s.statics number past))
      ∙ knows.assigned code;
  everything = knows.everything;
  reached = knows.reached;
  looped = knows.looped;
  variables = knows.variables;
  declared = knows.declared;
  points = knows.points;
  calls = knows.calls;
}

-- one more parameter
pub param_set : (m : Names) (k : ℕ) → m.variables ≡ k + 1 → m.trail ≡ range_with_len 0 k → with_number k m ≡ range_with_len 0 (suc k)
param_set m k many is =
    let plain : k ≡ 0 + k = omega arith in
    let first : nat_lt k m.variables ≡ true = lt-ltb k m.variables (omega (arith, many)) in
    let apart : is_in m.trail k ≡ false = ap (λ xs. is_in xs k) is ∙ below k k ∙ le-ltb k k (omega arith) in
    ap (λ b. if b && not (is_in m.trail k) then m.trail ++ k ∷ [] else m.trail) first
    ∙ ap (λ b. if not b then m.trail ++ k ∷ [] else m.trail) apart
    ∙ ap (λ xs. xs ++ k ∷ []) is
    ∙ ap (λ n. range_with_len 0 k ++ n ∷ []) plain
    ∙ sym (range_more 0 k)

abbrev pub fresh : ℕ → ℕ → Names
fresh statics k = record { statics = statics; variables = k; before = []; trail = range_with_len 0 k; left = None }

pub param_more : (statics k : ℕ) (a b d : Names) → a ≡ fresh statics k → b ≡ record a { variables = a.variables + 1 } → d ≡ record b { trail = with_number k b }
    → d ≡ fresh statics (k + 1)
param_more statics k a b d old more set =
    let next : suc k ≡ k + 1 = omega arith in
    let declared : b ≡ record (fresh statics k) { variables = k + 1 } = more ∙ ap (λ (m : Names). record m { variables = m.variables + 1 }) old in
    set
    ∙ ap (λ (m : Names). record m { trail = with_number k m }) declared
    ∙ ap (λ t. record (fresh statics (k + 1)) { trail = t }) (param_set (record (fresh statics k) { variables = k + 1 }) k refl refl ∙ ap (range_with_len 0) next)

-- at the entry of a procedure with these parameters
pub entered : (s : Setting) (calls : ℕ) (params : List Param) (known : Context) → AreNumbered s
    → known.scope ≡ params_from s.form 0 params
    → known.assigned.names ≡ record { statics = length s.statics; variables = length known.scope; before = []; trail = range_with_len 0 (length known.scope); left = None }
    → known.assigned.everything ≡ false
    → known.reached ≡ true → known.looped ≡ false → known.variables ≡ length known.scope → known.points ≡ 0 → known.calls ≡ calls
    → Walks s (at_entry s calls params) known
entered s calls params known numbered scope names everything reached looped variables points same = record {
  knows = record {
    scope = sym scope;
    assigned = λ n.
        let vs = params_from s.form 0 params in
        let all : codes_of (s.statics ++ vs) ≡ codes_by (length s.statics) (range_with_len 0 (length vs)) =
        map-append (λ (v : Variable). v.code) s.statics vs
        ∙ ap (λ cs. cs ++ codes_of vs) numbered
        ∙ ap (λ cs. map static_code (range_with_len 0 (length s.statics)) ++ cs) (codes_params s.form 0 params) in
        ap (list_any (λ x. x == n)) (all ∙ ap (λ xs. codes_by (length s.statics) (range_with_len 0 (length xs))) (sym scope))
        ∙ sym (ap (λ (m : Names). list_any (λ x. x == n) (codes_by m.statics m.trail)) names)
        ∙ ap (λ e. e || list_any (λ x. x == n) (codes_by known.assigned.names.statics known.assigned.names.trail)) (sym everything);
    everything = sym everything;
    reached = sym reached;
    looped = sym looped;
    variables = ap length (sym scope) ∙ sym variables;
    declared = ap length (sym scope) ∙ sym (ap (λ (m : Names). m.variables) names);
    points = sym points;
    calls = sym same;
  };
  coded = coded_at_entry s calls params;
}
