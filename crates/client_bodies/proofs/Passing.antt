-- Which variables are set at the points that a walk passes, and wherever it leaves the body.
use Rattle.std.proofs.Common.{◌≡◌, ℕ, ◌≤◌, ◌+◌, Bool, true, false, List, [], ◌∷◌, ◌++◌, ap, append_assoc, arith, filter, length, map, refl, subst, sym, take, ◌∙◌}
use Rattle.std.proofs.Math.Bool.{and-true}
use Rattle.std.proofs.Math.Seq.{take-length}
use Rattle.std.proofs.lemmas.List.{append-nil, map-append}
use Rattle.std.proofs.lemmas.List.Elements.{filter_agree}
use Rattle.std.specs.List.{range_with_len}
use Rattle.std.specs.Option.{option_map_or}
use Rattle.std.specs.Prelude.{◌&&◌, ◌||◌, Option, None}
use Rattle.client_bodies.proofs.Left.{grows_then}
use Rattle.client_bodies.proofs.Marked.{keeps_same}
use Rattle.client_bodies.specs.Walking.{Grows, IsSame, Keeps, Notes, Passed, all_left}
use Rattle.client_model.specs.Codes.{variable_code}
use Rattle.client_model.specs.Contexts.{Assigned as Told, Context, Everything, Situated, These, call_count, evaluated, has}
use Rattle.client_model.specs.Points.{at_return}
use Rattle.client_model.specs.SetNumbers.{AllThese, AreThese, variables_at, variables_set}
use Rattle.client_model.specs.Settings.{Setting}
use Rattle.client_model.specs.Statements.{Statement, Return}
use Rattle.client_model.specs.declared.tree.Return.{Return as ReturnTree}
use Rattle.client_model.specs.declared.tree.Rhs.{Rhs}
use Rattle.client_points.specs.Writing.{at}
use Rattle.client_values.specs.Knowing.{Knows, is_everything}
use Rattle.client_values.specs.declared.context.Assigned.{Assigned}
use Rattle.client_values.specs.declared.context.Context.{Context as Known}
use Rattle.set_names.proofs.Codes.{variable_named}
use Rattle.set_names.specs.Names.{Names, is_assigned, is_in, is_left, numbers_now}

-- what is known where some names are assigned, and not everything

some_names : (c : Context) → AreThese c.assigned → is_everything c.assigned ≡ false
some_names c these = by c.assigned these
  where
    by : (a : Told) → AreThese a → is_everything a ≡ false
    by (These codes) is = refl
    by Everything is = absurd is

pub set_is : (c : Context) (known : Known) → Knows c known → AreThese c.assigned → (k : ℕ) → is_in known.assigned.names.trail k ≡ has c.assigned (variable_code k)
set_is c known knows these k =
    let names = known.assigned.names in
    variable_named names.statics names.trail (variable_code k) k refl
    ∙ ap (λ e. e || is_assigned names (variable_code k)) (sym (some_names c these) ∙ knows.everything)
    ∙ sym (knows.assigned (variable_code k))

pub now_is : (c : Context) (known : Known) → Knows c known → AreThese c.assigned → numbers_now known.assigned.names ≡ variables_set c
now_is c known knows these =
    filter_agree (is_in known.assigned.names.trail) (λ k. has c.assigned (variable_code k)) (set_is c known knows these) (range_with_len 0 known.assigned.names.variables)
    ∙ ap (λ n. filter (λ k. has c.assigned (variable_code k)) (range_with_len 0 n)) (sym knows.declared)

-- some statements, then others

pub passed_none : (old new : Names) → new.before ≡ old.before → new.left ≡ old.left → Passed [] old new
passed_none old new before left = record {
  before = before ∙ sym (append-nil old.before);
  left = λ k. ap (λ l. is_left l k) left ∙ sym (and-true (is_left old.left k));
}

pub and_assoc : (a b d : Bool) → ((a && b) && d) ≡ (a && (b && d))
and_assoc true b d = refl
and_assoc false b d = refl

left_both : (xs ys : List Situated) (k : ℕ) → all_left (xs ++ ys) k ≡ (all_left xs k && all_left ys k)
left_both [] ys k = refl
left_both (x ∷ xs) ys k =
    let own = option_map_or (λ a. has a (variable_code k)) (at_return x) true in
    ap (λ b. own && b) (left_both xs ys k) ∙ sym (and_assoc own (all_left xs k) (all_left ys k))

pub passed_both : (xs ys : List Situated) (a b d : Names) → Passed xs a b → Passed ys b d → Passed (xs ++ ys) a d
passed_both xs ys a b d one two = record {
  before =
      two.before ∙ ap (λ ps. ps ++ map variables_at ys) one.before
      ∙ append_assoc a.before (map variables_at xs) (map variables_at ys)
      ∙ ap (λ ps. a.before ++ ps) (sym (map-append variables_at xs ys));
  left = λ k.
      two.left k ∙ ap (λ b. b && all_left ys k) (one.left k)
      ∙ and_assoc (is_left a.left k) (all_left xs k) (all_left ys k)
      ∙ ap (λ b. is_left a.left k && b) (sym (left_both xs ys k));
}

pub passed_on : (xs : List Situated) (a b d : Names) → Passed xs a b → d.before ≡ b.before → d.left ≡ b.left → Passed xs a d
passed_on xs a b d passed before left = record { before = before ∙ passed.before; left = λ k. ap (λ l. is_left l k) left ∙ passed.left k }

pub these_left : (xs ys : List Situated) → AllThese (xs ++ ys) → AllThese xs
these_left [] ys all = tt
these_left (x ∷ xs) ys all = (all.0, these_left xs ys all.1)

pub these_right : (xs ys : List Situated) → AllThese (xs ++ ys) → AllThese ys
these_right [] ys all = all
these_right (x ∷ xs) ys all = these_right xs ys all.1

-- one point

pub passed_one : (s : Setting) (c : Context) (x : Statement) (old new : Known) → Knows c old → AreThese c.assigned → Notes old new → at_return (at s c x) ≡ None
    → Passed (at s c x ∷ []) old.assigned.names new.assigned.names
passed_one s c x old new knows these notes stays = record {
  before = notes.before c knows these;
  left = λ k.
      let own = λ (o : Option Told). option_map_or (λ a. has a (variable_code k)) o true && true in
      ap (λ l. is_left l k) notes.left
      ∙ sym (and-true (is_left old.assigned.names.left k))
      ∙ ap (λ b. is_left old.assigned.names.left k && b) (sym (ap own stays));
}

pub knows_returned : (c : Context) (old : Known) (names : Names) → Knows c old → names ≡ record old.assigned.names { left = names.left }
    → Knows c (record old { assigned = record old.assigned { names = names } })
knows_returned c old names knows is =
    subst (λ m. Knows c (record old { assigned = record old.assigned { names = m } })) (sym is) (record {
      scope = knows.scope;
      assigned = knows.assigned;
      everything = knows.everything;
      reached = knows.reached;
      looped = knows.looped;
      variables = knows.variables;
      declared = knows.declared;
      points = knows.points;
      calls = knows.calls;
    })

pub grows_returned : (old new : Known) (names : Names) → names ≡ record old.assigned.names { left = names.left }
    → Notes (record old { assigned = record old.assigned { names = names } }) new → Grows old.assigned new.assigned
grows_returned old new names is notes = record {
  trail = ap (λ (m : Names). take (length m.trail) new.assigned.names.trail) (sym is) ∙ notes.grows.trail ∙ ap (λ (m : Names). m.trail) is;
  statics = notes.grows.statics ∙ ap (λ (m : Names). m.statics) is;
  variables = subst (λ n. n ≤ new.assigned.names.variables) (ap (λ (m : Names). m.variables) is) notes.grows.variables;
}

pub passed_return : (s : Setting) (c : Context) (r : ReturnTree) (old new : Known) (names : Names) → Knows c old → AreThese c.assigned
    → ((k : ℕ) → is_left names.left k ≡ (is_left old.assigned.names.left k && is_in old.assigned.names.trail k))
    → names ≡ record old.assigned.names { left = names.left }
    → Notes (record old { assigned = record old.assigned { names = names } }) new
    → Passed (at s c (Return r) ∷ []) old.assigned.names new.assigned.names
passed_return s c r old new names knows these left is notes = record {
  before =
      notes.before c (knows_returned c old names knows is) these
      ∙ ap (λ (m : Names). m.before ++ variables_set c ∷ []) is;
  left = λ k.
      ap (λ l. is_left l k) notes.left ∙ left k
      ∙ ap (λ b. is_left old.assigned.names.left k && b) (set_is c old knows these k ∙ sym (and-true (has c.assigned (variable_code k))));
}

-- a point is come to

pub knows_evaluated : (c : Context) (old : Known) (names : Names) (points calls more : ℕ) (v : Option Rhs)
    → names ≡ record old.assigned.names { before = names.before } → points ≡ old.points + 1 → calls ≡ old.calls + more
    → Knows c old → option_map_or call_count v 0 ≡ more
    → Knows (evaluated v c) (record old { points = points; calls = calls; assigned = record old.assigned { names = names } })
knows_evaluated c old names points calls more v is next made knows counts =
    subst (λ m. Knows (evaluated v c) (record old { points = points; calls = calls; assigned = record old.assigned { names = m } })) (sym is) (record {
      scope = knows.scope;
      assigned = knows.assigned;
      everything = knows.everything;
      reached = knows.reached;
      looped = knows.looped;
      variables = knows.variables;
      declared = knows.declared;
      points = omega (arith, knows.points, next);
      calls = omega (arith, knows.calls, made, counts);
    })

pub notes_passed : (old new : Known) → new.assigned.names ≡ record old.assigned.names { before = old.assigned.names.before ++ numbers_now old.assigned.names ∷ [] } → Notes old new
notes_passed old new is = record {
  grows = record {
    trail = ap (λ (m : Names). take (length old.assigned.names.trail) m.trail) is ∙ take-length old.assigned.names.trail;
    statics = ap (λ (m : Names). m.statics) is;
    variables = subst (λ (m : Names). old.assigned.names.variables ≤ m.variables) (sym is) (omega arith);
  };
  left = ap (λ (m : Names). m.left) is;
  before = λ c knows these. ap (λ (m : Names). m.before) is ∙ ap (λ ks. old.assigned.names.before ++ ks ∷ []) (now_is c old knows these);
}

pub same_passed : (old new : Known) → new.assigned.names ≡ record old.assigned.names { before = old.assigned.names.before ++ numbers_now old.assigned.names ∷ [] }
    → new.assigned.everything ≡ old.assigned.everything → IsSame old.assigned new.assigned
same_passed old new is whole = record {
  trail = ap (λ (m : Names). m.trail) is;
  statics = ap (λ (m : Names). m.statics) is;
  everything = whole;
  variables = subst (λ (m : Names). old.assigned.names.variables ≤ m.variables) (sym is) (omega arith);
}

pub notes_then : (a b d : Known) → Notes a b → Keeps b.assigned d.assigned → Notes a d
notes_then a b d notes keeps = record {
  grows = grows_then a.assigned b.assigned d.assigned notes.grows keeps.grows;
  left = keeps.left ∙ notes.left;
  before = λ c knows these. keeps.before ∙ notes.before c knows these;
}

pub notes_same : (a b d : Known) → Notes a b → d.assigned ≡ b.assigned → Notes a d
notes_same a b d notes is = notes_then a b d notes (subst (λ x. Keeps b.assigned x) (sym is) (keeps_same b.assigned))

pub keeps_declared : (a : Assigned) (names : Names) → names ≡ record a.names { variables = a.names.variables + 1 } → Keeps a (record a { names = names })
keeps_declared a names is = subst (λ m. Keeps a (record a { names = m })) (sym is) (record {
  grows = record { trail = take-length a.names.trail; statics = refl; variables = omega arith };
  left = refl;
  before = refl;
})
