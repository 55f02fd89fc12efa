-- What stands behind a block.
use Rattle.std.proofs.Common.{◌≡◌, ℕ, ◌<◌, ◌≤◌, Bool, true, false, List, [], ◌∷◌, ◌++◌, ap, arith, drop, length, refl, subst, sym, take, ◌∙◌}
use Rattle.std.proofs.Math.Seq.{take-append_seam, take-length}
use Rattle.std.proofs.lemmas.List.{take-append-drop}
use Rattle.std.proofs.lemmas.List.Elements.{filter_agree}
use Rattle.std.proofs.lemmas.List.Folds.{list_any-append}
use Rattle.std.proofs.Math.Bool.{or-false, or-true}
use Rattle.std.specs.List.{list_any}
use Rattle.std.specs.Prelude.{◌==◌, ◌&&◌, ◌||◌, Some, None, cond, filter, if◌then◌else◌, not}
use Rattle.client_bodies.proofs.Marked.{both_marks, codes_both, has_meet, swap}
use Rattle.client_bodies.specs.Walking.{AreWithin, Grows, IsSame, is_among, is_one_of, is_own, joined, outside_of, put_back}
use Rattle.client_bodies.specs.declared.blocks.Outside.{Outside}
use Rattle.client_bodies.specs.declared.blocks.Own.{Own}
use Rattle.client_model.specs.Codes.{variable_code}
use Rattle.client_model.specs.Statements.{Statement, Statements, Declare, Assign, Do, If, While, Break, Continue, Return, none, ◌▸◌}
use Rattle.client_model.specs.Contexts as told
use Rattle.client_model.specs.Settings.{Setting}
use Rattle.client_values.specs.Knowing.{Knows, is_everything, is_marked}
use Rattle.client_values.specs.declared.context.Assigned.{Assigned}
use Rattle.client_values.specs.declared.context.Context.{Context}
use Rattle.set_names.proofs.Codes.{variable_named}
use Rattle.set_names.specs.Names.{Names, is_assigned, is_in}
use Rattle.set_names.specs.Sets.{codes_of}

-- what comes behind what comes behind
pub then_kept : {A : Type 0} (xs ys zs : List A) → take (length xs) ys ≡ xs → take (length ys) zs ≡ ys → take (length xs) zs ≡ xs
then_kept [] ys zs one two = refl
then_kept (x ∷ xs) [] zs one two = absurd cc
then_kept (x ∷ xs) (y ∷ ys) [] one two = absurd cc
then_kept (x ∷ xs) (y ∷ ys) (z ∷ zs) one two =
    let left : take (length xs) ys ≡ xs = cc in
    let right : take (length ys) zs ≡ ys = cc in
    let rest = then_kept xs ys zs left right in
    let same : z ≡ x = cc in
    ap (λ u. u ∷ take (length xs) zs) same ∙ ap (λ us. x ∷ us) rest

pub same_kept : {A : Type 0} (xs : List A) → take (length xs) xs ≡ xs
same_kept xs = take-length xs

-- statements add to the scope
scope_behind : (s : Setting) (c : told.Context) (x : Statement) → take (length c.scope) (told.after s c x).scope ≡ c.scope
scope_behind s c (Declare place sort w None) = take-append_seam c.scope (_ ∷ [])
scope_behind s c (Declare place sort w (Some v)) = take-append_seam c.scope (_ ∷ [])
scope_behind s c (Assign w v) = take-length c.scope
scope_behind s c (Do v) = take-length c.scope
scope_behind s c (If place t first second has_else) = take-length c.scope
scope_behind s c (While place t inner) = take-length c.scope
scope_behind s c (Break place) = take-length c.scope
scope_behind s c (Continue place) = take-length c.scope
scope_behind s c (Return r) = take-length c.scope

pub scope_kept : (s : Setting) (c : told.Context) (xs : Statements) → take (length c.scope) (told.after_all s c xs).scope ≡ c.scope
scope_kept s c none = take-length c.scope
scope_kept s c (x ▸ xs) =
    then_kept c.scope (told.after s c x).scope (told.after_all s (told.after s c x) xs).scope (scope_behind s c x) (scope_kept s (told.after s c x) xs)

-- the same names, behind a block
put_names : (before inside : Assigned) → Grows before inside → (n : ℕ)
    → is_assigned (record inside.names { trail = take (length before.names.trail) inside.names.trail }) n ≡ is_assigned before.names n
put_names before inside grows n =
    ap (λ m. list_any (λ x. x == n) (codes_of m (take (length before.names.trail) inside.names.trail))) grows.statics
    ∙ ap (λ xs. list_any (λ x. x == n) (codes_of before.names.statics xs)) grows.trail

-- behind a block that ends in the second context, with what stood before it
pub knows_left : (c d : told.Context) (before inside behind : Context)
    → Knows c before → Knows d inside → take (length c.scope) d.scope ≡ c.scope → Grows before.assigned inside.assigned
    → behind ≡ put_back (outside_of before) inside
    → Knows (told.counting c d) behind
knows_left c d before inside behind outer inner scope grows is = subst (Knows (told.counting c d)) (sym is) (record {
  scope = sym scope ∙ ap (λ xs. take (length xs) d.scope) outer.scope ∙ ap (take (length before.scope)) inner.scope;
  assigned = λ n. outer.assigned n ∙ ap (λ b. before.assigned.everything || b) (sym (put_names before.assigned inside.assigned grows n));
  everything = outer.everything;
  reached = outer.reached;
  looped = outer.looped;
  variables = inner.variables;
  declared = inner.declared;
  points = inner.points;
  calls = inner.calls;
})

pub same_left : (before inside behind : Context) → Grows before.assigned inside.assigned → behind ≡ put_back (outside_of before) inside → IsSame before.assigned behind.assigned
same_left before inside behind grows is =
    subst (λ (k : Context). IsSame before.assigned k.assigned) (sym is) (record { trail = grows.trail; statics = grows.statics; everything = refl; variables = grows.variables })

pub same_grows : (old new : Assigned) → IsSame old new → Grows old new
same_grows old new same = record {
  trail = ap (take (length old.names.trail)) same.trail ∙ take-length old.names.trail;
  statics = same.statics;
  variables = same.variables;
}

pub grows_then : (a b d : Assigned) → Grows a b → Grows b d → Grows a d
grows_then a b d one two = record {
  trail = then_kept a.names.trail b.names.trail d.names.trail one.trail two.trail;
  statics = two.statics ∙ one.statics;
  variables = omega (arith, one.variables, two.variables);
}

pub same_then : (a b d : Assigned) → IsSame a b → IsSame b d → IsSame a d
same_then a b d one two = record {
  trail = two.trail ∙ one.trail;
  statics = two.statics ∙ one.statics;
  everything = two.everything ∙ one.everything;
  variables = omega (arith, one.variables, two.variables);
}

pub same_among : (old new : Assigned) → IsSame old new → (n : ℕ) → is_among new n ≡ is_among old n
same_among old new same n =
    ap (λ m. list_any (λ x. x == n) (codes_of m new.names.trail)) same.statics ∙ ap (λ xs. list_any (λ x. x == n) (codes_of old.names.statics xs)) same.trail

-- in the block of a `while`, and behind it
pub knows_looped : (c : told.Context) (known : Context) → Knows c known → Knows (record c { looped = true }) (record known { looped = true })
knows_looped c known knows = record {
  scope = knows.scope;
  assigned = knows.assigned;
  everything = knows.everything;
  reached = knows.reached;
  looped = refl;
  variables = knows.variables;
  declared = knows.declared;
  points = knows.points;
  calls = knows.calls;
}

pub knows_unlooped : (c d : told.Context) (before known : Context) → Knows c before → Knows (told.counting (record c { looped = true }) d) known
    → Knows (told.counting c d) (record known { looped = before.looped })
knows_unlooped c d before known outer knows = record {
  scope = knows.scope;
  assigned = knows.assigned;
  everything = knows.everything;
  reached = knows.reached;
  looped = outer.looped;
  variables = knows.variables;
  declared = knows.declared;
  points = knows.points;
  calls = knows.calls;
}

chosen : (a : told.Assigned) (on : Bool) (n : ℕ) → told.has (if on then a else told.Everything) n ≡ (told.has a n || not on)
chosen a true n = sym (or-false (told.has a n))
chosen a false n = sym (or-true (told.has a n))

arranged : (e b o on : Bool) → ((e || (b || o)) || not on) ≡ (b || ((e || not on) || o))
arranged true true o on = refl
arranged true false o on = refl
arranged false true o on = refl
arranged false false true true = refl
arranged false false true false = refl
arranged false false false true = refl
arranged false false false false = refl

new_names : (before : Assigned) (inside : Assigned) → Grows before inside → (n : ℕ)
    → is_among inside n ≡ (is_among before n || is_one_of (drop (length before.names.trail) inside.names.trail) n)
new_names before inside grows n =
    let new = drop (length before.names.trail) inside.names.trail in
    let parts : inside.names.trail ≡ before.names.trail ++ new =
    sym (take-append-drop (length before.names.trail) inside.names.trail) ∙ ap (λ xs. xs ++ new) grows.trail in
    ap (λ m. list_any (λ x. x == n) (codes_of m inside.names.trail)) grows.statics
    ∙ ap (λ xs. list_any (λ x. x == n) (codes_of before.names.statics xs)) parts
    ∙ codes_both before.names.statics before.names.trail new n

-- what a block assigns
pub block_assigns : (d : told.Context) (before : Assigned) (inside : Context) (own : Own) (xs : Statements) (on : Bool)
    → Knows d inside → Grows before inside.assigned → on ≡ told.ends_going_on xs
    → own ≡ record { numbers = drop (length before.names.trail) inside.assigned.names.trail; everything = inside.assigned.everything || not on }
    → (n : ℕ) → told.has (told.behind_block xs d) n ≡ (is_among before n || is_own own n)
block_assigns d before inside own xs on inner grows ends is n =
    let e = inside.assigned.everything in
    let new = drop (length before.names.trail) inside.assigned.names.trail in
    ap (λ g. told.has (if g then d.assigned else told.Everything) n) (sym ends)
    ∙ chosen d.assigned on n
    ∙ ap (λ b. b || not on) (inner.assigned n ∙ ap (λ b. e || b) (new_names before inside.assigned grows n))
    ∙ arranged e (is_among before n) (is_one_of new n) on
    ∙ ap (λ a. is_among before n || is_own a n) (sym is)

pub block_everything : (d : told.Context) (inside : Context) (own : Own) (xs : Statements) (on : Bool)
    → Knows d inside → on ≡ told.ends_going_on xs → own.everything ≡ (inside.assigned.everything || not on)
    → is_everything (told.behind_block xs d) ≡ own.everything
block_everything d inside own xs on inner ends is =
    ap (λ g. is_everything (if g then d.assigned else told.Everything)) (sym ends)
    ∙ by d.assigned on
    ∙ ap (λ b. b || not on) inner.everything
    ∙ sym is
  where
    by : (a : told.Assigned) (g : Bool) → is_everything (if g then a else told.Everything) ≡ (is_everything a || not g)
    by a true = sym (or-false (is_everything a))
    by a false = sym (or-true (is_everything a))

-- which variables of the first block both assign
pub both_are : (before inside : Assigned) (own : Own) (on : Bool) (others both : List ℕ) → Grows before inside
    → own ≡ record { numbers = drop (length before.names.trail) inside.names.trail; everything = inside.everything || not on }
    → both ≡ filter (λ k. (inside.everything || not on) || is_in inside.names.trail k) others
    → both ≡ filter (λ k. is_among before (variable_code k) || is_own own (variable_code k)) others
both_are before inside own on others both grows is made =
    let e = inside.everything || not on in
    let new = drop (length before.names.trail) inside.names.trail in
    made
    ∙ filter_agree (λ k. e || is_in inside.names.trail k) (λ k. is_among before (variable_code k) || is_own own (variable_code k))
    (λ k.
    ap (λ b. e || b)
    (variable_named inside.names.statics inside.names.trail (variable_code k) k refl ∙ new_names before inside grows (variable_code k))
    ∙ swap e (is_among before (variable_code k)) (is_one_of new (variable_code k))
    ∙ ap (λ a. is_among before (variable_code k) || is_own a (variable_code k)) (sym is))
    others

-- the block's own are numbers of variables
in_drop : (k : ℕ) (n : ℕ) (xs : List ℕ) → is_in (drop n xs) k ≡ true → is_in xs k ≡ true
in_drop k n xs is =
    sym (ap (λ ys. is_in ys k) (take-append-drop n xs)) ∙ list_any-append (λ x. x == k) (take n xs) (drop n xs)
    ∙ ap (λ b. is_in (take n xs) k || b) is ∙ or-true (is_in (take n xs) k)

pub own_within : (before : Assigned) (inside behind : Context) (own : Own) (o : Outside) → AreWithin inside.assigned.names.variables inside.assigned.names.trail
    → own.numbers ≡ drop o.trail inside.assigned.names.trail → behind ≡ put_back o inside
    → AreWithin behind.assigned.names.variables own.numbers
own_within before inside behind own o within is put k there =
    let inner : k < inside.assigned.names.variables = within k (in_drop k o.trail inside.assigned.names.trail (sym (ap (λ xs. is_in xs k) is) ∙ there)) in
    subst (λ (c : Context). k < c.assigned.names.variables) (sym put) inner

either : (e f o a b : Bool) → ((e && f) || ((o || (a && (o || (f || b)))) || (e && b))) ≡ ((o || (e || a)) && (o || (f || b)))
either true true true a b = refl
either true true false a b = refl
either true false true a b = refl
either true false false true true = refl
either true false false true false = refl
either true false false false b = refl
either false f true a b = refl
either false true false true b = refl
either false true false false b = refl
either false false false true true = refl
either false false false true false = refl
either false false false false b = refl

-- what both blocks assign
pub both_assign : (old new : Assigned) (middle : Names) (first second : Own) (both : List ℕ)
    → ((n : ℕ) → is_assigned middle n ≡ (is_assigned old.names n || is_one_of both n))
    → ((n : ℕ) → is_assigned new.names n ≡ (is_assigned middle n || (first.everything && is_one_of second.numbers n)))
    → both ≡ filter (λ k. is_among old (variable_code k) || is_own second (variable_code k)) first.numbers
    → new.everything ≡ (first.everything && second.everything)
    → (n : ℕ) → is_marked new n ≡ ((is_among old n || is_own first n) && (is_among old n || is_own second n))
both_assign old new middle first second both one other made everything n =
    let test = λ (x : ℕ). is_among old x || is_own second x in
    ap (λ e. e || is_among new n) everything
    ∙ ap (λ b. (first.everything && second.everything) || b)
    (other n
    ∙ ap (λ b. b || (first.everything && is_one_of second.numbers n))
    (one n ∙ ap (λ b. is_among old n || b) (ap (λ xs. is_one_of xs n) made ∙ both_marks test first.numbers n)))
    ∙ either first.everything second.everything (is_among old n) (is_one_of first.numbers n) (is_one_of second.numbers n)

-- of the numbers of variables those that pass

either_in : (a b d : Bool) → (b ≡ true → d ≡ true) → (a || b) ≡ true → (a || d) ≡ true
either_in true b d rest h = refl
either_in false b d rest h = rest h

in_filter : (test : ℕ → Bool) (xs : List ℕ) (k : ℕ) → is_in (filter test xs) k ≡ true → is_in xs k ≡ true
in_filter test [] k h = h
in_filter test (x ∷ xs) k h = by (test x) (in_filter test xs k) h
  where
    by : (b : Bool) → (is_in (filter test xs) k ≡ true → is_in xs k ≡ true) → is_in (cond b (x ∷ filter test xs) (filter test xs)) k ≡ true
        → ((x == k) || is_in xs k) ≡ true
    by true rest there = either_in (x == k) (is_in (filter test xs) k) (is_in xs k) rest there
    by false rest there = ap (λ b. (x == k) || b) (rest there) ∙ or-true (x == k)

pub within_filter : (variables : ℕ) (test : ℕ → Bool) (xs : List ℕ) → AreWithin variables xs → AreWithin variables (filter test xs)
within_filter variables test xs within k is = within k (in_filter test xs k is)

meet_everything : (a b : told.Assigned) → is_everything (told.meet a b) ≡ (is_everything a && is_everything b)
meet_everything (told.These xs) (told.These ys) = refl
meet_everything (told.These xs) told.Everything = refl
meet_everything told.Everything b = refl

-- behind both blocks of an `if`
pub knows_joined : (e one other : told.Context) (xs ys : Statements) (old : Assigned) (mid new : Context) (first second : Own) (first_on second_on : Bool)
    → Knows (told.counting e other) mid
    → first_on ≡ told.ends_going_on xs → second_on ≡ told.ends_going_on ys
    → ((n : ℕ) → told.has (told.behind_block xs one) n ≡ (is_among old n || is_own first n))
    → ((n : ℕ) → told.has (told.behind_block ys other) n ≡ (is_among old n || is_own second n))
    → ((n : ℕ) → is_marked new.assigned n ≡ ((is_among old n || is_own first n) && (is_among old n || is_own second n)))
    → is_everything (told.behind_block xs one) ≡ first.everything → is_everything (told.behind_block ys other) ≡ second.everything
    → new.assigned.everything ≡ (first.everything && second.everything)
    → new.assigned.names ≡ record mid.assigned.names { trail = new.assigned.names.trail }
    → new ≡ record mid { assigned = new.assigned; reached = mid.reached && (first_on || second_on) }
    → Knows (joined e xs ys one other) new
knows_joined e one other xs ys old mid new first second first_on second_on knows ends_first ends_second left right all whole_left whole_right whole names is =
    subst (Knows (joined e xs ys one other)) (sym is) (record {
      scope = knows.scope;
      assigned = λ n.
          has_meet (told.behind_block xs one) (told.behind_block ys other) n
          ∙ ap (λ b. b && told.has (told.behind_block ys other) n) (left n)
          ∙ ap (λ b. (is_among old n || is_own first n) && b) (right n)
          ∙ sym (all n);
      everything =
          meet_everything (told.behind_block xs one) (told.behind_block ys other)
          ∙ ap (λ b. b && is_everything (told.behind_block ys other)) whole_left
          ∙ ap (λ b. first.everything && b) whole_right
          ∙ sym whole;
      reached =
          ap (λ b. b && (told.ends_going_on xs || told.ends_going_on ys)) knows.reached
          ∙ ap (λ b. mid.reached && (b || told.ends_going_on ys)) (sym ends_first)
          ∙ ap (λ b. mid.reached && (first_on || b)) (sym ends_second);
      looped = knows.looped;
      variables = knows.variables;
      declared = knows.declared ∙ ap (λ (m : Names). m.variables) (sym names);
      points = knows.points;
      calls = knows.calls;
    })

pub joined_grows : (old new : Assigned) → take (length old.names.trail) new.names.trail ≡ old.names.trail → new.names ≡ record old.names { trail = new.names.trail } → Grows old new
joined_grows old new grows is = record {
  trail = grows;
  statics = ap (λ (m : Names). m.statics) is;
  variables = subst (λ (m : Names). old.names.variables ≤ m.variables) (sym is) (omega arith);
}
