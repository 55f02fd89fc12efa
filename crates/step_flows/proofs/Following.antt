-- What follows over a step, kind by kind.
use Rattle.std.proofs.Common.{ℕ, ◌≡◌, ◌⊎◌, inl, inr, Bool, true, false, Option, Some, None, List, slice_get, sym, subst, ap, refl, ◌∙◌}
use Rattle.std.specs.Option.{option_map}
use Rattle.std.proofs.lemmas.Option.{none-some, same_Some}
use Rattle.client_facts.specs.FactSets.{IsWith}
use Rattle.client_facts.specs.Facts.{IsFact}
use Rattle.client_facts.specs.Flows.{FollowsAt, FollowsCalled, FollowsStep, IsPut, copied, names_of_update}
use Rattle.client_facts.specs.Over.{IsAfter}
use Rattle.client_facts.specs.Setting.{IsOutcome, IsStep, Setting, way, ways_of}
use Rattle.client_facts.specs.declared.fact.Fact.{Fact}
use Rattle.client_facts.specs.declared.fact.Fact.TheVariants.{Always, Of}
use Rattle.client_model.specs.declared.form.CallSite.{CallSite}
use Rattle.client_model.specs.declared.form.Point.{Point}
use Rattle.client_model.specs.declared.form.Point.TheVariants as point
use Rattle.client_steps.specs.States.{call_in, point_at}
use Rattle.easl_model.specs.declared.form.Method.{Method}
use Rattle.method_abstraction.specs.declared.entry.Update.{Update}
use Rattle.step_flows.proofs.Adding.{Adds-both, Adds-nothing, Adds-same, Adds-with}
use Rattle.step_flows.specs.Adding.{Adds, IsBySome}
use Rattle.step_flows.specs.Asking.{IsCalledAt}
use Rattle.step_flows.specs.Steps.{ComesNext, ComesOn, FollowsOver, IsAlwaysFrom, IsCopied, IsMadeAfter, IsMadeBy, IsThisAt}

-- what is always true follows from itself
pub always_so : (d : Fact) (old new : List Fact) → d ≡ Always → IsWith old Always new → Adds (IsAlwaysFrom d) old new
always_so d old new e w = Adds-with (IsAlwaysFrom d) Always old new w (λ f r. r.0) (refl, e)

pub always_not : (d : Fact) (old : List Fact) → (d ≡ Always → ⊥) → Adds (IsAlwaysFrom d) old old
always_not d old other = Adds-nothing (IsAlwaysFrom d) old (λ f r. other r.1)

-- over what changes nothing
stays : (g : Setting) (p m : ℕ) (d f : Fact) → FollowsOver g point.Nothing d f → d ≡ f
stays g p m d Always h = h
stays g p m d (Of family args) h = h

stays_back : (g : Setting) (p m : ℕ) (d f : Fact) → d ≡ f → FollowsOver g point.Nothing d f
stays_back g p m d Always h = h
stays_back g p m d (Of family args) h = h

pub over_nothing : (g : Setting) (p m : ℕ) (d : Fact) (old new : List Fact) → Adds (IsThisAt g p m d) old new → Adds (ComesNext g p m point.Nothing d) old new
over_nothing g p m d old new a =
    Adds-same (IsThisAt g p m d) (ComesNext g p m point.Nothing d) old new
    (λ f r. record { follows = stays_back g p m d f (sym r.is); fact = r.fact })
    (λ f q. record { is = sym (stays g p m d f q.follows); fact = q.fact })
    a

test_from : (g : Setting) (d f : Fact) → FollowsOver g point.Nothing d f → FollowsOver g (point.Branch None) d f
test_from g d Always h = h
test_from g d (Of family args) h = h

test_to : (g : Setting) (d f : Fact) → FollowsOver g (point.Branch None) d f → FollowsOver g point.Nothing d f
test_to g d Always h = h
test_to g d (Of family args) h = h

pub over_test : (g : Setting) (p m : ℕ) (d : Fact) (old new : List Fact) → Adds (IsThisAt g p m d) old new
    → Adds (ComesNext g p m (point.Branch None) d) old new
over_test g p m d old new a =
    Adds-same (ComesNext g p m point.Nothing d) (ComesNext g p m (point.Branch None) d) old new
    (λ f r. record { follows = test_from g d f r.follows; fact = r.fact })
    (λ f q. record { follows = test_to g d f q.follows; fact = q.fact })
    (over_nothing g p m d old new a)

asks_from : (g : Setting) (call : ℕ) (d f : Fact) → FollowsOver g (point.Component None call) d f → FollowsOver g (point.Branch (Some call)) d f
asks_from g call d Always h = h
asks_from g call d (Of family args) h = h

asks_to : (g : Setting) (call : ℕ) (d f : Fact) → FollowsOver g (point.Branch (Some call)) d f → FollowsOver g (point.Component None call) d f
asks_to g call d Always h = h
asks_to g call d (Of family args) h = h

pub over_asking : (g : Setting) (p m call : ℕ) (d : Fact) (old new : List Fact) → Adds (ComesNext g p m (point.Component None call) d) old new
    → Adds (ComesNext g p m (point.Branch (Some call)) d) old new
over_asking g p m call d old new a =
    Adds-same (ComesNext g p m (point.Component None call) d) (ComesNext g p m (point.Branch (Some call)) d) old new
    (λ f r. record { follows = asks_from g call d f r.follows; fact = r.fact })
    (λ f q. record { follows = asks_to g call d f q.follows; fact = q.fact })
    a

-- over a copy
always_copied : (g : Setting) (t s : Option ℕ) (f : Fact) → FollowsOver g (point.Copy t s) Always f → f ≡ Always
always_copied g t s Always h = refl
always_copied g t s (Of family args) h = (let e : Always ≡ Of family (copied t s args) = h in cc)

pub copy_always : (g : Setting) (p m : ℕ) (t s : Option ℕ) (d : Fact) (old new : List Fact) → d ≡ Always → IsWith old Always new
    → Adds (ComesNext g p m (point.Copy t s) d) old new
copy_always g p m t s d old new e w =
    let P : Fact → Type 0 = λ v. Adds (ComesNext g p m (point.Copy t s) v) old new in
    let here : Adds (ComesNext g p m (point.Copy t s) Always) old new =
    Adds-with (ComesNext g p m (point.Copy t s) Always) Always old new w (λ f r. always_copied g t s f r.follows) (record { follows = refl; fact = tt })
    in subst P (sym e) here

copied_to : (g : Setting) (p m : ℕ) (t s : Option ℕ) (family : ℕ) (before : List ℕ) (f : Fact) → IsCopied g p m t s family before f
    → ComesNext g p m (point.Copy t s) (Of family before) f
copied_to g p m t s family before f r =
    let P : Fact → Type 0 = λ v. FollowsOver g (point.Copy t s) (Of family before) v in
    let there : Of family before ≡ Of family (copied t s r.args) = ap (Of family) (sym r.copy.copy) in
    record { follows = subst P (sym r.copy.is) there; fact = r.copy.fact }

copied_from : (g : Setting) (p m : ℕ) (t s : Option ℕ) (family : ℕ) (before : List ℕ) (f : Fact) → FollowsOver g (point.Copy t s) (Of family before) f
    → IsFact g p m f
    → IsCopied g p m t s family before f
copied_from g p m t s family before Always h fact = absurd (other h)
  where
    other : Of family before ≡ Always → ⊥
    other e = cc
copied_from g p m t s family before (Of other args) h fact =
    let e : Of family before ≡ Of other (copied t s args) = h in
    let same : other ≡ family = cc in
    let names : copied t s args ≡ before = cc in
    record { args = args; copy = record { is = ap (λ v. Of v args) same; copy = names; fact = fact } }

pub copy_of : (g : Setting) (p m : ℕ) (t s : Option ℕ) (d : Fact) (family : ℕ) (before shown : List ℕ) (old new : List Fact) → d ≡ Of family before
    → shown ≡ before
    → Adds (IsCopied g p m t s family shown) old new → Adds (ComesNext g p m (point.Copy t s) d) old new
copy_of g p m t s d family before shown old new e told a =
    let P : Fact → Type 0 = λ v. Adds (ComesNext g p m (point.Copy t s) v) old new in
    let Q : List ℕ → Type 0 = λ v. Adds (IsCopied g p m t s family v) old new in
    let here : Adds (ComesNext g p m (point.Copy t s) (Of family before)) old new =
    Adds-same (IsCopied g p m t s family before) (ComesNext g p m (point.Copy t s) (Of family before)) old new (copied_to g p m t s family before)
    (λ f q. copied_from g p m t s family before f q.follows q.fact) (subst Q told a)
    in subst P (sym e) here

-- over a component call
made_to : (g : Setting) (p m : ℕ) (t : Option ℕ) (call : ℕ) (d f : Fact) → IsMadeAfter g p m t call d f → ComesNext g p m (point.Component t call) d f
made_to g p m t call d f r =
    let u = r.made.chosen in
    let by = r.made.true_of in
    let one = by.made.true_of in
    let at = one.made in
    let P : Fact → Type 0 = λ v. FollowsOver g (point.Component t call) d v in
    let Q : ℕ → Type 0 = λ v. IsPut (names_of_update v one.args r.method r.site) by.made.chosen d in
    let there : FollowsCalled g t call d u.family one.args = record {
      site = r.site;
      site_is = r.called.site_is;
      method = r.method;
      method_is = r.called.method_is;
      made = record {
        update = u;
        answers = record { there = r.made.among; method_is = by.of_method; results_are = sym at.places; family_is = refl };
        chosen = by.made.chosen;
        among = by.made.among;
        put_in = subst Q (sym at.places) at.put_in;
      };
    } in
    record { follows = subst P (sym at.is) there; fact = at.fact }

made_from : (g : Setting) (p m : ℕ) (t : Option ℕ) (call : ℕ) (d : Fact) (family : ℕ) (args : List ℕ) → FollowsCalled g t call d family args
    → IsFact g p m (Of family args)
    → IsMadeAfter g p m t call d (Of family args)
made_from g p m t call d family args h fact =
    let made = h.made in
    let u = made.update in
    let Q : ℕ → Type 0 = λ v. IsPut (names_of_update v args h.method h.site) made.chosen d in
    record {
      site = h.site;
      method = h.method;
      called = record { site_is = h.site_is; method_is = h.method_is };
      made = record {
        chosen = u;
        among = made.answers.there;
        true_of = record {
          of_method = made.answers.method_is;
          made = record {
            chosen = made.chosen;
            among = made.among;
            true_of = record {
              args = args;
              made = record {
                is = ap (λ v. Of v args) (sym made.answers.family_is);
                places = sym made.answers.results_are;
                put_in = subst Q (sym made.answers.results_are) made.put_in;
                fact = fact;
              };
            };
          };
        };
      };
    }

call_cases : (g : Setting) (p m : ℕ) (t : Option ℕ) (call : ℕ) (d f : Fact) → FollowsOver g (point.Component t call) d f → IsFact g p m f
    → IsAlwaysFrom d f ⊎ IsMadeAfter g p m t call d f
call_cases g p m t call d Always h fact = inl (refl, h)
call_cases g p m t call d (Of family args) h fact = inr (made_from g p m t call d family args h fact)

always_to : (g : Setting) (p m : ℕ) (t : Option ℕ) (call : ℕ) (d f : Fact) → IsAlwaysFrom d f → ComesNext g p m (point.Component t call) d f
always_to g p m t call d f r =
    let P : Fact → Type 0 = λ v. ComesNext g p m (point.Component t call) d v in
    subst P (sym r.0) (record { follows = r.1; fact = tt })

pub over_call : (g : Setting) (p m : ℕ) (t : Option ℕ) (call : ℕ) (d : Fact) (old middle new : List Fact) → Adds (IsAlwaysFrom d) old middle
    → Adds (IsMadeAfter g p m t call d) middle new
    → Adds (ComesNext g p m (point.Component t call) d) old new
over_call g p m t call d old middle new =
    Adds-both (IsAlwaysFrom d) (IsMadeAfter g p m t call d) (ComesNext g p m (point.Component t call) d) old middle new
    (always_to g p m t call d) (made_to g p m t call d) (λ f s. call_cases g p m t call d f s.follows s.fact)

-- a procedure call is no step: only what is always true is told of it
pub over_procedure : (g : Setting) (p m : ℕ) (here : Point) (d : Fact) (old new : List Fact)
    → ((family : ℕ) (args : List ℕ) → FollowsOver g here d (Of family args) → ⊥)
    → Adds (IsAlwaysFrom d) old new → Adds (ComesNext g p m here d) old new
over_procedure g p m here d old new never a =
    Adds-same (IsAlwaysFrom d) (ComesNext g p m here d) old new
    (λ f r. (let P : Fact → Type 0 = λ v. ComesNext g p m here d v in subst P (sym r.0) (record { follows = r.1; fact = tt })))
    (λ f q. back f q.follows)
    a
  where
    back : (f : Fact) → FollowsOver g here d f → IsAlwaysFrom d f
    back Always h = (refl, h)
    back (Of family args) h = absurd (never family args h)

pub made_by : (g : Setting) (p m : ℕ) (t : Option ℕ) (call : ℕ) (site : CallSite) (method : Method) (d : Fact) (shown : List Update) (old new : List Fact)
    → IsCalledAt g call site method
    → shown ≡ g.abstraction.updates → Adds (IsBySome (IsMadeBy g p m t method site d) shown) old new → Adds (IsMadeAfter g p m t call d) old new
made_by g p m t call site method d shown old new is e a =
    let S : List Update → Type 0 = λ v. Adds (IsBySome (IsMadeBy g p m t method site d) v) old new in
    Adds-same (IsBySome (IsMadeBy g p m t method site d) g.abstraction.updates) (IsMadeAfter g p m t call d) old new
    (λ f r. record { site = site; method = method; called = is; made = r })
    (λ f q. only_called f q)
    (subst S e a)
  where
    only_called : (f : Fact) → IsMadeAfter g p m t call d f → IsBySome (IsMadeBy g p m t method site d) g.abstraction.updates f
    only_called f q =
        let same_site : q.site ≡ site = same_Some q.site site (sym q.called.site_is ∙ is.site_is) in
        let P : CallSite → Type 0 = λ v. IsBySome (IsMadeBy g p m t q.method v d) g.abstraction.updates f in
        let Q : Method → Type 0 = λ v. IsBySome (IsMadeBy g p m t v site d) g.abstraction.updates f in
        let same_method : q.method ≡ method = same_Some q.method method
        (sym q.called.method_is ∙ ap (λ v. slice_get g.form.methods v.method) same_site ∙ is.method_is) in
        subst Q same_method (subst P same_site q.made)

pub made_nowhere : (g : Setting) (p m : ℕ) (t : Option ℕ) (call : ℕ) (d : Fact) (old : List Fact)
    → ((site : CallSite) (method : Method) → IsCalledAt g call site method → ⊥)
    → Adds (IsMadeAfter g p m t call d) old old
made_nowhere g p m t call d old never = Adds-nothing (IsMadeAfter g p m t call d) old (λ f r. never r.site r.method r.called)

-- on the ways of a point
pub on_call : (g : Setting) (p : ℕ) (ways : ℕ × ℕ) (here : Point) (d : Fact) (old : List Fact) → (call_in here ≡ None → ⊥)
    → Adds (ComesOn g p ways here d) old old
on_call g p ways here d old calls = Adds-nothing (ComesOn g p ways here d) old (λ f r. calls r.plain)

pub on_one : (g : Setting) (p : ℕ) (ways : ℕ × ℕ) (here : Point) (d : Fact) (old new : List Fact) → call_in here ≡ None
    → ((b : Bool) → (IsOutcome here b → b ≡ true) × (b ≡ true → IsOutcome here b))
    → Adds (ComesNext g p ways.0 here d) old new → Adds (ComesOn g p ways here d) old new
on_one g p ways here d old new plain only a =
    Adds-same (ComesNext g p ways.0 here d) (ComesOn g p ways here d) old new
    (λ f r. record { outcome = true; plain = plain; may_be = (only true).1 refl; comes = r })
    (λ f q. let P : Bool → Type 0 = λ b. ComesNext g p (way b ways) here d f in subst P ((only q.outcome).0 q.may_be) q.comes)
    a

on_some : (g : Setting) (p : ℕ) (ways : ℕ × ℕ) (here : Point) (d f : Fact) (b : Bool) → ComesNext g p (way b ways) here d f
    → ComesNext g p ways.0 here d f ⊎ ComesNext g p ways.1 here d f
on_some g p ways here d f true h = inl h
on_some g p ways here d f false h = inr h

pub on_both : (g : Setting) (p : ℕ) (ways : ℕ × ℕ) (here : Point) (d : Fact) (old middle new : List Fact) → call_in here ≡ None
    → ((b : Bool) → IsOutcome here b)
    → Adds (ComesNext g p ways.0 here d) old middle → Adds (ComesNext g p ways.1 here d) middle new → Adds (ComesOn g p ways here d) old new
on_both g p ways here d old middle new plain any =
    Adds-both (ComesNext g p ways.0 here d) (ComesNext g p ways.1 here d) (ComesOn g p ways here d) old middle new
    (λ f r. record { outcome = true; plain = plain; may_be = any true; comes = r })
    (λ f r. record { outcome = false; plain = plain; may_be = any false; comes = r })
    (λ f s. on_some g p ways here d f s.outcome s.comes)

pub on_way : (g : Setting) (p : ℕ) (ways : ℕ × ℕ) (here shape : Point) (d : Fact) (old new : List Fact) → here ≡ shape → call_in shape ≡ None
    → ((b : Bool) → (IsOutcome shape b → b ≡ true) × (b ≡ true → IsOutcome shape b)) → Adds (ComesNext g p ways.0 here d) old new
    → Adds (ComesOn g p ways here d) old new
on_way g p ways here shape d old new is plain only a =
    let Q : Point → Type 0 = λ v. (b : Bool) → (IsOutcome v b → b ≡ true) × (b ≡ true → IsOutcome v b) in
    on_one g p ways here d old new (ap call_in is ∙ plain) (subst Q (sym is) only) a

pub on_ways : (g : Setting) (p : ℕ) (ways : ℕ × ℕ) (here shape : Point) (d : Fact) (old middle new : List Fact) → here ≡ shape → call_in shape ≡ None
    → ((b : Bool) → IsOutcome shape b)
    → Adds (ComesNext g p ways.0 here d) old middle → Adds (ComesNext g p ways.1 here d) middle new → Adds (ComesOn g p ways here d) old new
on_ways g p ways here shape d old middle new is plain any a b =
    let Q : Point → Type 0 = λ v. (c : Bool) → IsOutcome v c in
    on_both g p ways here d old middle new (ap call_in is ∙ plain) (subst Q (sym is) any) a b

pub on_procedure : (g : Setting) (p : ℕ) (ways : ℕ × ℕ) (here shape : Point) (d : Fact) (old : List Fact) → here ≡ shape → (call_in shape ≡ None → ⊥)
    → Adds (ComesOn g p ways here d) old old
on_procedure g p ways here shape d old is calls = on_call g p ways here d old (λ e. calls (ap call_in (sym is) ∙ e))

pub over_here : (g : Setting) (p m : ℕ) (here shape : Point) (d : Fact) (old new : List Fact) → here ≡ shape → Adds (ComesNext g p m shape d) old new
    → Adds (ComesNext g p m here d) old new
over_here g p m here shape d old new is a =
    let P : Point → Type 0 = λ v. Adds (ComesNext g p m v d) old new in
    subst P (sym is) a

pub some_not : {A : Type 0} (x : A) → Some x ≡ None → ⊥
some_not x e = none-some x (sym e)

-- over the step at a point
follows_here : (g : Setting) (p n : ℕ) (here : Point) (d f : Fact) → point_at g.client p n ≡ Some here → FollowsStep g p n d f → FollowsOver g here d f
follows_here g p n here d Always e h = h
follows_here g p n here d (Of family args) e h =
    let P : Option Point → Type 0 = λ v. FollowsAt g v d family args in
    subst P e h

follows_back : (g : Setting) (p n : ℕ) (here : Point) (d f : Fact) → point_at g.client p n ≡ Some here → FollowsOver g here d f → FollowsStep g p n d f
follows_back g p n here d Always e h = h
follows_back g p n here d (Of family args) e h =
    let P : Option Point → Type 0 = λ v. FollowsAt g v d family args in
    subst P (sym e) h

pub after_on : (g : Setting) (p n : ℕ) (here : Point) (ways : ℕ × ℕ) (d : Fact) (old new : List Fact) → Some here ≡ point_at g.client p n
    → Some ways ≡ ways_of g p n
    → Adds (ComesOn g p ways here d) old new → Adds (IsAfter g p n d) old new
after_on g p n here ways d old new is goes a =
    Adds-same (ComesOn g p ways here d) (IsAfter g p n d) old new
    (λ f r. (
      r.outcome,
      way r.outcome ways,
      record { here = here; is = sym is; plain = r.plain; outcome = r.may_be; goes = ap (option_map (way r.outcome)) (sym goes) },
      follows_back g p n here d f (sym is) r.comes.follows,
      r.comes.fact,
    ))
    (λ f q. back f q.0 q.1 q.2 q.3 q.4)
    a
  where
    back : (f : Fact) (b : Bool) (m : ℕ) → IsStep g p n b m → FollowsStep g p n d f → IsFact g p m f → ComesOn g p ways here d f
    back f b m step follows fact =
        let same : step.here ≡ here = same_Some step.here here (sym step.is ∙ sym is) in
        let end : way b ways ≡ m = same_Some (way b ways) m (ap (option_map (way b)) goes ∙ step.goes) in
        let P : Point → Type 0 = λ v. call_in v ≡ None in
        let Q : Point → Type 0 = λ v. IsOutcome v b in
        let R : ℕ → Type 0 = λ v. IsFact g p v f in
        record {
          outcome = b;
          plain = subst P same step.plain;
          may_be = subst Q same step.outcome;
          comes = record { follows = follows_here g p n here d f (sym is) follows; fact = subst R (sym end) fact };
        }

pub after_nowhere : (g : Setting) (p n : ℕ) (d : Fact) (old : List Fact) → None ≡ point_at g.client p n → Adds (IsAfter g p n d) old old
after_nowhere g p n d old is = Adds-nothing (IsAfter g p n d) old (λ f q. none-some q.2.here (is ∙ q.2.is))

no_way : (o : Option (ℕ × ℕ)) (b : Bool) (m : ℕ) → None ≡ o → option_map (way b) o ≡ Some m → ⊥
no_way None b m e h = none-some m h
no_way (Some x) b m e h = none-some x e

pub after_end : (g : Setting) (p n : ℕ) (d : Fact) (old : List Fact) → None ≡ ways_of g p n → Adds (IsAfter g p n d) old old
after_end g p n d old is = Adds-nothing (IsAfter g p n d) old (λ f q. no_way (ways_of g p n) q.0 q.1 is q.2.goes)
