-- Which names a fact may have after a component call, position by position.
use Rattle.std.proofs.Common.{ℕ, zero, suc, ◌+◌, ◌*◌, ◌/◌, ◌%◌, ◌<◌, ◌≤◌, ◌≡◌, Bool, true, false, cond, eqb, Option, Some, None, Result, Ok, Err, IfOk}
use Rattle.std.proofs.Common.{List, [], ◌∷◌, All, Contains, length, get_or, take, slice_get, sym, subst, ap, refl, ◌∙◌, arith}
use Rattle.std.specs.List.{AllZip}
use Rattle.std.proofs.lemmas.Bool.{false≢true}
use Rattle.std.proofs.lemmas.Bool.Decides.{nat_tests}
use Rattle.std.proofs.lemmas.List.{take_all}
use Rattle.std.proofs.lemmas.List.Elements.{All-more, All-same, All-weaker}
use Rattle.std.proofs.lemmas.Option.{none-some, same_Some, slice_get-get_or}
use Rattle.std.proofs.lemmas.Slice.Zip.{AllZip-long}
use Rattle.access_paths.specs.declared.term.Var.{Var}
use Rattle.client_facts.specs.Flows.{names_of_update, positions}
use Rattle.client_model.specs.declared.form.CallSite.{CallSite}
use Rattle.easl_model.specs.declared.form.Method.{Method}
use Rattle.step_flows.proofs.Longer.{Has, front-more}
use Rattle.step_flows.proofs.Zips.{AllZip-at}
use Rattle.step_flows.specs.Lists.{AreRight}
use Rattle.step_flows.specs.Put.{AreNamed, IsKnown, has_position}

pub IfOk-then : {T E : Type 0} (r : Result T E) {P Q : T → Type 0} → ((x : T) → P x → Q x) → IfOk r P → IfOk r Q
IfOk-then (Ok x) f h = f x h
IfOk-then (Err e) f h = tt

none_has : (i : ℕ) → has_position 0 i ≡ true → ⊥
none_has zero e = false≢true e
none_has (suc i) e = none_has i e

odd : (b : Bool) (r : ℕ) → eqb ((cond b 1 0 + 2 * r) % 2) 1 ≡ true → b ≡ true
odd true r e = refl
odd false r e = absurd (even r e)
  where
    even : (r : ℕ) → eqb ((0 + 2 * r) % 2) 1 ≡ true → ⊥
    even r e = grind (arith, nat_tests)

half : (b : Bool) (r : ℕ) → (cond b 1 0 + 2 * r) / 2 ≡ r
half true r = omega arith
half false r = omega arith

same_code : (x a : ℕ) → eqb x a ≡ true → x ≡ a
same_code x a e = grind (arith, nat_tests)

-- a name at one of its positions is that name
pub taken : (t : Option ℕ) (args : List ℕ) (i code : ℕ) → has_position (positions t args) i ≡ true → slice_get args i ≡ Some code → t ≡ Some code
taken t [] i code e f = absurd (none-some code f)
taken None (a ∷ args) i code e f = absurd (none_has i e)
taken (Some x) (a ∷ args) zero code e f = ap (λ v. Some v) (same_code x a (odd (eqb x a) (positions (Some x) args) e)) ∙ f
taken (Some x) (a ∷ args) (suc i) code e f =
    let P : ℕ → Type 0 = λ v. has_position v i ≡ true in
    taken (Some x) args i code (subst P (half (eqb x a) (positions (Some x) args)) e) f

pub taken_right : (t : Option ℕ) (results : ℕ) (method : Method) (site : CallSite) (vars : List Var) (held args : List ℕ) (i code : ℕ)
    → has_position results i ≡ true
    → AreRight t results method site vars held args → slice_get args i ≡ Some code → t ≡ Some code
taken_right t results method site vars held args i code e right at =
    let P : ℕ → Type 0 = λ v. has_position v i ≡ true in
    taken t args i code (subst P (sym right.places) e) at

unhidden : (b : Bool) (o : Option ℕ) (c : ℕ) → cond b None o ≡ Some c → o ≡ Some c
unhidden true o c e = absurd (none-some c e)
unhidden false o c e = e

early_name : (results : ℕ) (args : List ℕ) (method : Method) (site : CallSite) (n c : ℕ) → n < 3
    → slice_get (names_of_update results args method site) n ≡ Some (Some c) → slice_get args n ≡ Some c
early_name results args method site zero c l e = unhidden _ (slice_get args 0) c (same_Some _ (Some c) e)
early_name results args method site (suc zero) c l e = unhidden _ (slice_get args 1) c (same_Some _ (Some c) e)
early_name results args method site (suc (suc zero)) c l e = unhidden _ (slice_get args 2) c (same_Some _ (Some c) e)
early_name results args method site (suc (suc (suc n))) c l e = absurd (omega arith)

AreNamed-at : (names : List (Option ℕ)) (vars : List Var) (held : List ℕ) (k : ℕ) (v : Var) (c : ℕ) → AreNamed names vars held → slice_get vars k ≡ Some v
    → slice_get held k ≡ Some c → slice_get names v.0 ≡ Some (Some c)
AreNamed-at names [] held k v c h e f = absurd (none-some v e)
AreNamed-at names (w ∷ vars) [] k v c h e f = absurd (none-some c f)
AreNamed-at names (w ∷ vars) (x ∷ held) zero v c h e f =
    ap (λ u. slice_get names u.0) (sym (same_Some w v e)) ∙ h.0 ∙ ap (λ u. Some (Some u)) (same_Some x c f)
AreNamed-at names (w ∷ vars) (x ∷ held) (suc k) v c h e f = AreNamed-at names vars held k v c h.1 e f

-- the name that is held for a variable stands at its position
pub known_right : (t : Option ℕ) (results : ℕ) (method : Method) (site : CallSite) (vars : List Var) (held args : List ℕ) (i known code : ℕ)
    → IsKnown vars held i known
    → AreRight t results method site vars held args → slice_get args i ≡ Some code → Some known ≡ Some code
known_right t results method site vars held args i known code is right at =
    let N = names_of_update results args method site in
    let named : slice_get N is.var.0 ≡ Some (Some known) = AreNamed-at N vars held is.place is.var known right.named is.var_is is.named in
    let there : slice_get args i ≡ Some known = early_name results args method site i known is.early (ap (slice_get N) (sym is.number) ∙ named) in
    sym there ∙ at

pub right_lists-more : (Right : List ℕ → Type 0) (R : ℕ → ℕ → Type 0) (classes : List ℕ) (i : ℕ) (lists shown new : List (List ℕ)) (names told : List ℕ)
    → shown ≡ lists → told ≡ names → i < length classes → ((args : List ℕ) → Right args → AllZip R classes args → Contains lists (take i args))
    → All (λ front. Has new front told) shown
    → ((args : List ℕ) (code : ℕ) → Right args → slice_get args i ≡ Some code → R (get_or classes i 0) code → Contains names code)
    → (args : List ℕ) → Right args → AllZip R classes args → Contains new (take (i + 1) args)
right_lists-more Right R classes i lists shown new names told lists_are names_are l so_far all named args right zip =
    let P : List (List ℕ) → Type 0 = λ v. Contains v (take i args) in
    let Q : List ℕ → Type 0 = λ v. Contains v (get_or args i 0) in
    let long : length args ≡ length classes = AllZip-long R classes args zip in
    let within : i < length args = omega arith in
    front-more shown new told args i within all (subst P (sym lists_are) (so_far args right zip))
    (subst Q (sym names_are) (named args (get_or args i 0) right (slice_get-get_or args i 0 within) (AllZip-at R classes args i 0 0 zip l)))

pub right_lists-all : (Right : List ℕ → Type 0) (R : ℕ → ℕ → Type 0) (classes : List ℕ) (i : ℕ) (lists : List (List ℕ)) → length classes ≤ i
    → ((args : List ℕ) → Right args → AllZip R classes args → Contains lists (take i args)) → (args : List ℕ) → Right args → AllZip R classes args
    → Contains lists args
right_lists-all Right R classes i lists l so_far args right zip =
    let long : length args ≡ length classes = AllZip-long R classes args zip in
    let P : List ℕ → Type 0 = λ v. Contains lists v in
    subst P (take_all i args (omega arith)) (so_far args right zip)

-- names that may stand, added one by one
pub standing-more : (W : ℕ → Type 0) (items new codes : List ℕ) (i : ℕ) → i < length codes → ((a : ℕ) → Contains items a → Contains new a)
    → All (λ code. W code → Contains items code) (take i codes) → (W (get_or codes i 0) → Contains new (get_or codes i 0))
    → All (λ code. W code → Contains new code) (take (i + 1) codes)
standing-more W items new codes i l kept h here =
    All-more (λ code. W code → Contains new code) codes i 0 l (All-weaker (λ code. W code → Contains items code) (λ code. W code
    → Contains new code) (λ code f w. kept code (f w)) (take i codes) h) here

pub standing-all : (W : ℕ → Type 0) (items codes : List ℕ) (i : ℕ) → length codes ≤ i → All (λ code. W code → Contains items code) (take i codes)
    → All (λ code. W code → Contains items code) codes
standing-all W items codes i l h = All-same (λ code. W code → Contains items code) codes (take i codes) (sym (take_all i codes l)) h

pub only_one : (W : ℕ → Type 0) (o : Option ℕ) (known : ℕ) (items : List ℕ) → o ≡ Some known → (W known → Contains items known) → (code : ℕ) → o ≡ Some code
    → W code → Contains items code
only_one W o known items is has code e w =
    let same : known ≡ code = same_Some known code (sym is ∙ e) in
    let P : ℕ → Type 0 = λ v. W v → Contains items v in
    subst P same has w
