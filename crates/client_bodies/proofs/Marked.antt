-- What is marked behind a step.
use Rattle.std.proofs.Common.{◌≡◌, ◌⊎◌, ℕ, ◌<◌, Bool, true, false, not, List, [], ◌∷◌, ◌++◌, ap, append_assoc, arith, inl, inr, get_or, length, ◌+◌, map, nat_lt, refl, subst, sym, take, ◌∙◌}
use Rattle.std.proofs.lemmas.Bool.{eq-eqb, eqb-true, lt-ltb}
use Rattle.std.proofs.lemmas.List.{map-append, take_more}
use Rattle.std.proofs.lemmas.List.Folds.{list_any-append, list_any_at}
use Rattle.std.proofs.Math.Seq.{take-append_seam, take-length}
use Rattle.std.proofs.lemmas.Map.Views.{any-filter_same}
use Rattle.std.proofs.Math.Bool.{and-true as and_true, or-false, or-true, or_comm}
use Rattle.std.specs.List.{list_any, range_with_len}
use Rattle.std.specs.Option.{option_map_or}
use Rattle.std.specs.Prelude.{◌==◌, ◌&&◌, ◌||◌, Option, Some, None, filter, if◌then◌else◌, option_map}
use Rattle.client_bodies.specs.Walking.{AreWithin, IsName, Keeps, is_one_of}
use Rattle.client_model.proofs.SetNumbers.{filter_mapped}
use Rattle.client_model.specs.Codes.{static_code, variable_code}
use Rattle.client_values.specs.Knowing.{Knows, is_everything, is_marked}
use Rattle.set_names.proofs.Codes.{variable_named as variable_by}
use Rattle.set_names.specs.Names.{Names, is_assigned, is_in, with_number}
use Rattle.set_names.specs.Sets.{codes_of}
use Rattle.client_values.specs.declared.context.Assigned.{Assigned}
use Rattle.client_values.specs.declared.context.Context.{Context}
use Rattle.client_model.specs.Contexts as told
use Rattle.client_model.specs.Settings.{Setting, Variable, variable_named}
use Rattle.easl_model.specs.declared.tree.Word.{Word}

pub swap : (a b r : Bool) → (a || (b || r)) ≡ (b || (a || r))
swap true true r = refl
swap true false r = refl
swap false true r = refl
swap false false r = refl

-- the names of some variables, and of others
pub codes_both : (m : ℕ) (xs ys : List ℕ) (n : ℕ) → list_any (λ x. x == n) (codes_of m (xs ++ ys)) ≡ (list_any (λ x. x == n) (codes_of m xs) || is_one_of ys n)
codes_both m xs ys n =
    let statics = map static_code (range_with_len 0 m) in
    ap (list_any (λ x. x == n))
    (ap (λ cs. statics ++ cs) (map-append variable_code xs ys) ∙ sym (append_assoc statics (map variable_code xs) (map variable_code ys)))
    ∙ list_any-append (λ x. x == n) (statics ++ map variable_code xs) (map variable_code ys)

pub has_with : (a : told.Assigned) (code n : ℕ) → told.has (told.with_code code a) n ≡ ((code == n) || told.has a n)
has_with (told.These codes) code n = refl
has_with told.Everything code n = sym (or-true (code == n))

-- one more variable is assigned, which is there if it was not
pub set_told : (m : Names) (k : ℕ) → (is_assigned m (variable_code k) ≡ true) ⊎ (k < m.variables)
    → (n : ℕ) → is_assigned (record m { trail = with_number k m }) n ≡ ((variable_code k == n) || is_assigned m n)
set_told m k which n = by (nat_lt k m.variables && not (is_in m.trail k)) refl
  where
    there : (is_assigned m (variable_code k) ≡ true) ⊎ (k < m.variables) → (nat_lt k m.variables && not (is_in m.trail k)) ≡ false → is_assigned m (variable_code k) ≡ true
    there (inl is) none = is
    there (inr inside) none =
        sym (variable_by m.statics m.trail (variable_code k) k refl)
        ∙ unless (is_in m.trail k) (sym (ap (λ b. b && not (is_in m.trail k)) (lt-ltb k m.variables inside)) ∙ none)
      where
        unless : (b : Bool) → not b ≡ false → b ≡ true
        unless true h = refl
        unless false h = sym h

    already : (b : Bool) → (b ≡ true → variable_code k ≡ n) → is_assigned m (variable_code k) ≡ true → is_assigned m n ≡ (b || is_assigned m n)
    already true is holds = sym (ap (is_assigned m) (is refl)) ∙ holds
    already false is holds = refl

    next_codes : (b : Bool) → (nat_lt k m.variables && not (is_in m.trail k)) ≡ b
        → list_any (λ x. x == n) (codes_of m.statics (if b then m.trail ++ k ∷ [] else m.trail)) ≡ ((variable_code k == n) || is_assigned m n)
    next_codes true is =
        codes_both m.statics m.trail (k ∷ []) n
        ∙ ap (λ b. is_assigned m n || b) (or-false (variable_code k == n))
        ∙ or_comm (is_assigned m n) (variable_code k == n)
    next_codes false is = already (variable_code k == n) (eqb-true (variable_code k) n) (there which is)

    by : (b : Bool) → (nat_lt k m.variables && not (is_in m.trail k)) ≡ b → is_assigned (record m { trail = with_number k m }) n ≡ ((variable_code k == n) || is_assigned m n)
    by b is = ap (λ t. list_any (λ x. x == n) (codes_of m.statics (if t then m.trail ++ k ∷ [] else m.trail))) is ∙ next_codes b is

pub set_grows : (m : Names) (k : ℕ) → take (length m.trail) (with_number k m) ≡ m.trail
set_grows m k = by (nat_lt k m.variables && not (is_in m.trail k))
  where
    by : (b : Bool) → take (length m.trail) (if b then m.trail ++ k ∷ [] else m.trail) ≡ m.trail
    by true = take-append_seam m.trail (k ∷ [])
    by false = take-length m.trail

marked : (a : Assigned) (code k : ℕ) → code ≡ variable_code k → (is_marked a code ≡ true) ⊎ (k < a.names.variables)
    → (n : ℕ) → is_marked (record a { names = record a.names { trail = with_number k a.names } }) n ≡ ((code == n) || is_marked a n)
marked a code k is which n = by a.everything which
  where
    named : (is_assigned a.names code ≡ true) ⊎ (k < a.names.variables) → (is_assigned a.names (variable_code k) ≡ true) ⊎ (k < a.names.variables)
    named (inl there) = inl (sym (ap (is_assigned a.names) is) ∙ there)
    named (inr inside) = inr inside

    by : (e : Bool) → ((e || is_assigned a.names code) ≡ true) ⊎ (k < a.names.variables)
        → (e || is_assigned (record a.names { trail = with_number k a.names }) n) ≡ ((code == n) || (e || is_assigned a.names n))
    by true h = sym (or-true (code == n))
    by false h = set_told a.names k (named h) n ∙ ap (λ x. (x == n) || is_assigned a.names n) (sym is)

same_everything : (code : ℕ) (a : told.Assigned) → is_everything (told.with_code code a) ≡ is_everything a
same_everything code (told.These codes) = refl
same_everything code told.Everything = refl

pub knows_set : (c : told.Context) (old : Context) (names : Names) (code k : ℕ) → Knows c old → IsName c code → code ≡ variable_code k
    → names ≡ record old.assigned.names { trail = with_number k old.assigned.names }
    → Knows (record c { assigned = told.with_code code c.assigned }) (record old { assigned = record old.assigned { names = names } })
knows_set c old names code k knows is same set = record {
  scope = knows.scope;
  assigned = λ n.
      has_with c.assigned code n
      ∙ ap (λ b. (code == n) || b) (knows.assigned n)
      ∙ sym (marked old.assigned code k same (which is) n)
      ∙ ap (λ ns. is_marked (record old.assigned { names = ns }) n) (sym set);
  everything = same_everything code c.assigned ∙ knows.everything;
  reached = knows.reached;
  looped = knows.looped;
  variables = knows.variables;
  declared = knows.declared ∙ ap (λ (m : Names). m.variables) (sym set);
  points = knows.points;
  calls = knows.calls;
}
  where
    which : IsName c code → (is_marked old.assigned code ≡ true) ⊎ (k < old.assigned.names.variables)
    which (inl there) = inl (sym (knows.assigned code) ∙ there)
    which (inr (j, named, inside)) = inr (omega (arith, named, same, inside, knows.declared))

-- the name is assigned already
pub knows_kept : (c : told.Context) (old : Context) (code : ℕ) → Knows c old → IsName c code → ((k : ℕ) → code ≡ variable_code k → ⊥)
    → Knows (record c { assigned = told.with_code code c.assigned }) old
knows_kept c old code knows is other = record {
  scope = knows.scope;
  assigned = λ n. has_with c.assigned code n ∙ by n (code == n) (eqb-true code n) (there is) ∙ knows.assigned n;
  everything = same_everything code c.assigned ∙ knows.everything;
  reached = knows.reached;
  looped = knows.looped;
  variables = knows.variables;
  declared = knows.declared;
  points = knows.points;
  calls = knows.calls;
}
  where
    there : IsName c code → told.has c.assigned code ≡ true
    there (inl has) = has
    there (inr (j, named, inside)) = absurd (other j named)

    by : (n : ℕ) (b : Bool) → (b ≡ true → code ≡ n) → told.has c.assigned code ≡ true → (b || told.has c.assigned n) ≡ told.has c.assigned n
    by n true same has = sym has ∙ ap (told.has c.assigned) (same refl)
    by n false same has = refl

pub keeps_set : (a : Assigned) (k : ℕ) (names : Names) → names ≡ record a.names { trail = with_number k a.names } → Keeps a (record a { names = names })
keeps_set a k names is = subst (λ m. Keeps a (record a { names = m })) (sym is) (record {
  grows = record { trail = set_grows a.names k; statics = refl; variables = omega arith };
  left = refl;
  before = refl;
})

pub keeps_same : (a : Assigned) → Keeps a a
keeps_same a = record { grows = record { trail = take-length a.names.trail; statics = refl; variables = omega arith }; left = refl; before = refl }

pub by_code : (a : told.Assigned) (o : Option Variable)
    → option_map_or (λ v. told.with_code v.code a) o a ≡ option_map_or (λ code. told.with_code code a) (option_map (λ v. v.code) o) a
by_code a None = refl
by_code a (Some v) = refl

pub and_turned : (a b : Bool) → (a && b) ≡ (b && a)
and_turned true true = refl
and_turned true false = refl
and_turned false true = refl
and_turned false false = refl

-- those among some that pass
pub both_marks : (test : ℕ → Bool) (xs : List ℕ) (code : ℕ)
    → is_one_of (filter (λ k. test (variable_code k)) xs) code ≡ (is_one_of xs code && test code)
both_marks test xs code =
    ap (list_any (λ x. x == code)) (sym (filter_mapped test variable_code xs))
    ∙ any-filter_same (λ x. x == code) test (test code) (λ k is. ap test (eqb-true k code is)) (map variable_code xs)
    ∙ and_turned (test code) (is_one_of xs code)

-- a name is assigned by its code
pub knows_assigned : (s : Setting) (c : told.Context) (w : Word) (known : Context) (asked : Option ℕ) (code : ℕ)
    → asked ≡ option_map (λ v. v.code) (variable_named s c.scope w.name) → asked ≡ Some code
    → Knows (record c { assigned = told.with_code code c.assigned }) known → Knows (told.assigned s w c) known
knows_assigned s c w known asked code is there knows =
    subst (λ a. Knows (record c { assigned = a }) known)
    (sym (by_code c.assigned (variable_named s c.scope w.name) ∙ ap (λ o. option_map_or (λ n. told.with_code n c.assigned) o c.assigned) (sym is ∙ there)))
    knows

-- a name that is not there
pub knows_unassigned : (s : Setting) (c : told.Context) (w : Word) (known : Context) → None ≡ option_map (λ v. v.code) (variable_named s c.scope w.name)
    → Knows c known → Knows (told.assigned s w c) known
knows_unassigned s c w known is knows = subst (λ a. Knows (record c { assigned = a }) known) (sym (by (variable_named s c.scope w.name) is)) knows
  where
    by : (o : Option Variable) → None ≡ option_map (λ v. v.code) o → option_map_or (λ v. told.with_code v.code c.assigned) o c.assigned ≡ c.assigned
    by None none = refl
    by (Some v) some = absurd cc

-- one more of some variables is assigned
pub set_all_more : (start old new : Names) (numbers : List ℕ) (i : ℕ) → i < length numbers
    → (AreWithin start.variables numbers → (code : ℕ) → is_assigned old code ≡ (is_assigned start code || is_one_of (take i numbers) code))
    → take (length start.trail) old.trail ≡ start.trail
    → old ≡ record start { trail = old.trail }
    → new ≡ record old { trail = with_number (get_or numbers i 0) old }
    → (AreWithin start.variables numbers → (code : ℕ) → is_assigned new code ≡ (is_assigned start code || is_one_of (take (i + 1) numbers) code))
    × (take (length start.trail) new.trail ≡ start.trail)
    × (new ≡ record start { trail = new.trail })
set_all_more start old new numbers i inside all grows others set =
    let k = get_or numbers i 0 in
    let trail : new.trail ≡ with_number k old = ap (λ (m : Names). m.trail) set in (
      (λ within code.
          let here : is_in numbers k ≡ true = list_any_at (λ n. n == k) numbers i 0 inside (eq-eqb k k refl) in
          let there : k < old.variables = subst (λ n. k < n) (sym (ap (λ (m : Names). m.variables) others)) (within k here) in
          let more : take (i + 1) numbers ≡ take i numbers ++ k ∷ [] = take_more numbers i 0 inside in
          ap (λ (m : Names). is_assigned m code) set
          ∙ set_told old k (inr there) code
          ∙ ap (λ b. (variable_code k == code) || b) (all within code)
          ∙ turned (variable_code k == code) (is_assigned start code) (is_one_of (take i numbers) code)
          ∙ ap (λ b. is_assigned start code || b)
          (sym (ap (λ xs. is_one_of xs code) more
          ∙ ap (list_any (λ x. x == code)) (map-append variable_code (take i numbers) (k ∷ []))
          ∙ list_any-append (λ x. x == code) (map variable_code (take i numbers)) (variable_code k ∷ [])
          ∙ ap (λ b. is_one_of (take i numbers) code || b) (or-false (variable_code k == code))))),
      then_taken start.trail old.trail new.trail grows (ap (take (length old.trail)) trail ∙ set_grows old k),
      set ∙ ap (λ (m : Names). record m { trail = with_number k old }) others ∙ sym (ap (λ (t : List ℕ). record start { trail = t }) trail),
    )
  where
    turned : (a b d : Bool) → (a || (b || d)) ≡ (b || (d || a))
    turned true true d = refl
    turned true false d = sym (or-true d)
    turned false true d = refl
    turned false false d = sym (or-false d)

    then_taken : (xs ys zs : List ℕ) → take (length xs) ys ≡ xs → take (length ys) zs ≡ ys → take (length xs) zs ≡ xs
    then_taken [] ys zs one two = refl
    then_taken (x ∷ xs) [] zs one two = absurd cc
    then_taken (x ∷ xs) (y ∷ ys) [] one two = absurd cc
    then_taken (x ∷ xs) (y ∷ ys) (z ∷ zs) one two =
        let left : take (length xs) ys ≡ xs = cc in
        let right : take (length ys) zs ≡ ys = cc in
        let rest = then_taken xs ys zs left right in
        let same : z ≡ x = cc in
        ap (λ u. u ∷ take (length xs) zs) same ∙ ap (λ us. x ∷ us) rest

-- what is assigned on both ways
pub has_meet : (a b : told.Assigned) (n : ℕ) → told.has (told.meet a b) n ≡ (told.has a n && told.has b n)
has_meet (told.These xs) (told.These ys) n =
    any-filter_same (λ x. x == n) (told.has (told.These ys)) (told.has (told.These ys) n) (λ k is. ap (told.has (told.These ys)) (eqb-true k n is)) xs
    ∙ and_turned (told.has (told.These ys) n) (list_any (λ x. x == n) xs)
has_meet (told.These xs) told.Everything n = sym (and_true (list_any (λ x. x == n) xs))
has_meet told.Everything b n = refl
