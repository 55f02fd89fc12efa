-- Names are kept along the steps from point to point.
use Rattle.std.proofs.Common.{◌≡◌, ℕ, suc, ◌+◌, Bool, true, List, [], ◌∷◌, ◌++◌, refl, sym, ap, ◌∙◌, inl, subst}
use Rattle.std.specs.Prelude.{Option, Some, None}
use Rattle.std.specs.List.{AllZip}
use Rattle.client_model.proofs.Numbering.{head_point, points_after, points_behind}
use Rattle.client_model.specs.Contexts.{Assigned, Context, Situated, after, after_all, counting, entered, evaluated, has, looping, situated, situated_in, value_of_test}
use Rattle.client_model.specs.Kept.{Behind, KeepAll, Keeps, Within, WithinBut, first_assigned, in_loop, target_at, set_by}
use Rattle.client_model.specs.Nodes.{count, count_in, node_at, shape_from}
use Rattle.client_model.specs.Settings.{Setting}
use Rattle.client_model.specs.Statements.{Statement, Statements, Declare, Assign, Do, If, While, Break, Continue, Return, none, ◌▸◌}
use Rattle.client_model.specs.Ways.{Ways, first_point, ways_in, ways_of}
use Rattle.client_model.specs.Ways as ways

looped_after : (s : Setting) (c : Context) (x : Statement) → (after s c x).looped ≡ c.looped
looped_after s c (Declare place sort w None) = refl
looped_after s c (Declare place sort w (Some v)) = refl
looped_after s c (Assign w v) = refl
looped_after s c (Do v) = refl
looped_after s c (If place t first second has_else) = refl
looped_after s c (While place t inner) = refl
looped_after s c (Break place) = refl
looped_after s c (Continue place) = refl
looped_after s c (Return r) = refl

zip_append : {A B : Type 0} (R : A → B → Type 0) (xs : List A) (ys : List B) (us : List A) (vs : List B) → AllZip R xs ys → AllZip R us vs →
    AllZip R (xs ++ us) (ys ++ vs)
zip_append R [] [] us vs h k = k
zip_append R [] (y ∷ ys) us vs h k = absurd h
zip_append R (x ∷ xs) [] us vs h k = absurd h
zip_append R (x ∷ xs) (y ∷ ys) us vs h k = (h.0, zip_append R xs ys us vs h.1 k)

moved : (target : Option ℕ) (x y here : Assigned) → x ≡ y → WithinBut target y here → WithinBut target x here
moved target x y here is within code h = within code (sym (ap (λ a. has a code) is) ∙ h)

plain : (target : Option ℕ) (there here : Assigned) → Within there here → WithinBut target there here
plain target there here within code h = inl (within code h)

abbrev pub InLoop : Context → Statement → Type 0
InLoop c (Break place) = c.looped ≡ true
InLoop c (Continue place) = c.looped ≡ true
InLoop c x = Unit {0}

module _ (at : ℕ → Assigned) where
  abbrev pub Step : Situated → ℕ × ℕ → Type 0
  Step z ways = WithinBut (target_at z) (at ways.0) z.context.assigned × WithinBut (target_at z) (at ways.1) z.context.assigned

  abbrev pub Fine : List Situated → Type 0
  Fine [] = Unit {0}
  Fine (z ∷ zs) = ((at z.context.points ≡ z.context.assigned) × InLoop z.context z.statement) × Fine zs

  split_fine : (xs ys : List Situated) → Fine (xs ++ ys) → Fine xs × Fine ys
  split_fine [] ys f = (tt, f)
  split_fine (z ∷ zs) ys f = let rest = split_fine zs ys f.1 in ((f.0, rest.0), rest.1)

  pub record Agree (w : Ways) (b : Behind) (looped : Bool) : Type 0 where
    pub on : at w.on ≡ b.on
    pub broken : looped ≡ true → at w.broken ≡ b.broken
    pub again : looped ≡ true → at w.again ≡ b.again
    pub exit : at w.exit ≡ b.exit

  first_there : (s : Setting) (c : Context) (xs : Statements) (on : ℕ) (a : Assigned) → at on ≡ a → Fine (situated s c xs) →
      at (first_point (shape_from c.points xs) on) ≡ first_assigned c xs a
  first_there s c none on a is f = is
  first_there s c (x ▸ xs) on a is f = ap at (head_point c.points x) ∙ f.0.0

  mutual
    steps_in : (s : Setting) (c : Context) (x : Statement) (w : Ways) (b : Behind) → Keeps s c x b → Agree w b c.looped → InLoop c x →
        at c.points ≡ c.assigned → Fine (situated_in s c x) → AllZip Step (record {
          setting = s;
          context = c;
          statement =
              x;
        } ∷ situated_in s c x) (ways_in w (node_at c.points x))
    steps_in s c (Declare place sort name v) w b keeps agree loop here fine =
        let one : WithinBut (set_by s c (Declare place sort name v)) (at w.on) c.assigned =
        moved (set_by s c (Declare place sort name v)) (at w.on) b.on c.assigned agree.on keeps in
        ((one, one), tt)
    steps_in s c (Assign name v) w b keeps agree loop here fine =
        let one : WithinBut (set_by s c (Assign name v)) (at w.on) c.assigned = moved (set_by s c (Assign name v)) (at w.on) b.on c.assigned agree.on keeps in
        ((one, one), tt)
    steps_in s c (Do v) w b keeps agree loop here fine =
        let one : WithinBut None (at w.on) c.assigned = moved None (at w.on) b.on c.assigned agree.on (plain None b.on c.assigned keeps) in
        ((one, one), tt)
    steps_in s c (If place t first second has_else) w b keeps agree loop here fine =
        let start : Context = entered (evaluated (value_of_test t) c) in
        let one : Context = after_all s start first in
        let next : Context = entered (counting start one) in
        let parts : Fine (situated s start first) × Fine (situated s next second) = split_fine (situated s start first) (situated s next second) fine in
        let from : next.points ≡ suc c.points + count first = points_behind s start first in
        let on_true : at (first_point (shape_from (suc c.points) first) w.on) ≡ first_assigned start first b.on =
        first_there s start first w.on b.on agree.on parts.0 in
        let on_false : at (first_point (shape_from (suc c.points + count first) second) w.on) ≡ first_assigned next second b.on =
        subst (λ p. at (first_point (shape_from p second) w.on)
        ≡ first_assigned next second b.on) from (first_there s next second w.on b.on agree.on parts.1) in
        let inner : AllZip Step (situated s start first) (ways_of w (shape_from (suc c.points) first)) = steps_all s start first w b keeps.2 agree parts.0 in
        let outer : AllZip Step (situated s next second) (ways_of w (shape_from (suc c.points + count first) second)) =
        subst (λ p. AllZip Step (situated s next second) (ways_of w (shape_from p second))) from (steps_all s next second w b keeps.3 agree parts.1) in (
          (
            moved None (at (first_point (shape_from (suc c.points) first) w.on)) (first_assigned start first b.on) c.assigned on_true (plain None
                (first_assigned start first b.on) c.assigned keeps.0),
            moved None (at (first_point (shape_from (suc c.points + count first) second) w.on)) (first_assigned next second b.on) c.assigned on_false
                (plain None (first_assigned next second b.on) c.assigned keeps.1),
          ),
          zip_append Step (situated s start first) (ways_of w (shape_from (suc c.points) first)) (situated s next second) (ways_of w (shape_from
              (suc c.points + count first) second)) inner outer,
        )
    steps_in s c (While place t inner) w b keeps agree loop here fine =
        let start : Context = looping (evaluated (value_of_test t) c) in
        let on_true : at (first_point (shape_from (suc c.points) inner) c.points) ≡ first_assigned start inner c.assigned =
        first_there s start inner c.points c.assigned here fine in
        let agrees : Agree (ways.in_loop c.points w) (in_loop c b) true = record {
          on = here;
          broken = λ is. agree.on;
          again = λ is. here;
          exit =
              agree.exit;
        } in (
          (
            moved None (at (first_point (shape_from (suc c.points) inner) c.points)) (first_assigned start inner c.assigned) c.assigned on_true
                (plain None (first_assigned start inner c.assigned) c.assigned keeps.0),
            moved None (at w.on) b.on c.assigned agree.on (plain None b.on c.assigned keeps.1),
          ),
          steps_all s start inner (ways.in_loop c.points w) (in_loop c b) keeps.2 agrees fine,
        )
    steps_in s c (Break place) w b keeps agree loop here fine =
        let one : WithinBut None (at w.broken) c.assigned = moved None (at w.broken) b.broken c.assigned (agree.broken loop)
        (plain None b.broken c.assigned keeps) in
        ((one, one), tt)
    steps_in s c (Continue place) w b keeps agree loop here fine =
        let one : WithinBut None (at w.again) c.assigned = moved None (at w.again) b.again c.assigned (agree.again loop)
        (plain None b.again c.assigned keeps) in
        ((one, one), tt)
    steps_in s c (Return r) w b keeps agree loop here fine =
        let one : WithinBut None (at w.exit) c.assigned = moved None (at w.exit) b.exit c.assigned agree.exit (plain None b.exit c.assigned keeps) in
        ((one, one), tt)

    pub steps_all : (s : Setting) (c : Context) (xs : Statements) (w : Ways) (b : Behind) → KeepAll s c xs b → Agree w b c.looped →
        Fine (situated s c xs) → AllZip Step (situated s c xs) (ways_of w (shape_from c.points xs))
    steps_all s c none w b keeps agree fine = tt
    steps_all s c (x ▸ xs) w b keeps agree fine =
        let behind : Context = after s c x in
        let from : behind.points ≡ c.points + count_in x = points_after s c x in
        let parts : Fine (situated_in s c x) × Fine (situated s behind xs) = split_fine (situated_in s c x) (situated s behind xs) fine.1 in
        let on : at (first_point (shape_from (c.points + count_in x) xs) w.on) ≡ first_assigned behind xs b.on =
        subst (λ p. at (first_point (shape_from p xs) w.on) ≡ first_assigned behind xs b.on) from (first_there s behind xs w.on b.on agree.on parts.1) in
        let inner : Ways = record w { on = first_point (shape_from (c.points + count_in x) xs) w.on } in
        let there : Behind = record b { on = first_assigned behind xs b.on } in
        let agrees : Agree inner there c.looped = record { on = on; broken = agree.broken; again = agree.again; exit = agree.exit } in
        let one : AllZip Step (record { setting = s; context = c; statement = x } ∷ situated_in s c x) (ways_in inner (node_at c.points x)) =
        steps_in s c x inner there keeps.0 agrees fine.0.1 fine.0.0 parts.0 in
        let rest : AllZip Step (situated s behind xs) (ways_of w (shape_from (c.points + count_in x) xs)) =
        subst (λ p. AllZip Step (situated s behind xs) (ways_of w (shape_from p xs))) from (steps_all s behind xs w b keeps.1 (subst
        (λ l. Agree w b l) (sym (looped_after s c x)) agree) parts.1) in
        zip_append Step (record {
          setting = s;
          context = c;
          statement =
              x;
        } ∷ situated_in s c x) (ways_in inner (node_at c.points x)) (situated s behind xs) (ways_of w (shape_from (c.points + count_in x) xs)) one rest
