-- The order of asking leads to one end.
use Rattle.std.proofs.Common.{◌≡◌, ◌≢◌, ◌⊎◌, ℕ, ◌<◌, ◌≤◌, List, [], ◌∷◌, ◌++◌, Contains, Some, Result, Ok, Err, drop, length, slice_get, take, refl, ap, sym, subst, ◌∙◌, arith, length-append, ⊎_elim, inl, inr, eq-or-lt_of_le}
use Rattle.std.specs.Prelude.{IfErr, IfOk, IsErrAnd, MatchResult}
use Rattle.std.specs.List.{AllZip}
use Rattle.std.proofs.lemmas.Bool.{cases_order}
use Rattle.std.proofs.lemmas.Option.{get_or_from_slice_get, slice_get_within}
use Rattle.easl_model.specs.Form.{Form}
use Rattle.access_paths.specs.declared.term.Family.{Family}
use Rattle.access_paths.proofs.Members.{Distinct, none_distinct, put_distinct}
use Rattle.method_abstraction.specs.{clause_questions, questions, update_questions}
use Rattle.method_abstraction.specs.declared.entry.Abstraction.{Abstraction}
use Rattle.method_abstraction.specs.declared.entry.ClauseFacts.{ClauseFacts}
use Rattle.method_abstraction.specs.declared.entry.Disjunct.{Disjunct}
use Rattle.method_abstraction.specs.declared.entry.Disjunct.TheVariants as disjunct
use Rattle.method_abstraction.specs.declared.entry.Question.{Question}
use Rattle.method_abstraction.specs.declared.entry.Question.TheVariants.{Clause, Update}
use Rattle.method_abstraction.specs.declared.entry.Update as entry
use Rattle.derivation.specs.Closing.{AreTooMany, Asked, none, next, Closes, Comes, IsClauseReply, IsEntry, IsNext, IsUpdateReply, Meets, Stops}
use Rattle.derivation.specs.Ends.{EndsOnce}
use Rattle.derivation.specs.Laws.{IsNumbered}
use Rattle.derivation.specs.declared.derive_fault.DeriveFault.{DeriveFault}
use Rattle.derivation.specs.declared.derive_fault.DeriveFault.TheVariants.{Open, Cases, Memory}
use Rattle.derivation.specs.declared.derive_fault.Reason.TheVariants.{Families, Path, Cover}
use Rattle.derivation.specs.declared.reply.AskFault.{AskFault}
use Rattle.derivation.specs.declared.reply.AskFault.TheVariants as ask
use Rattle.derivation.specs.declared.reply.Predicate.{Predicate}
use Rattle.derivation.specs.declared.reply.Predicate.TheVariants.{Always, Of}
use Rattle.derivation.specs.declared.reply.Reply.{Reply}
use Rattle.derivation.proofs.Meeting.{meets_front}
use Rattle.derivation.proofs.OneReply.{comes_once}

-- the families that are met are one list
met_once : (known : List Family) (ps : List Predicate) (a b : List Family) → Meets known ps a → Meets known ps b → a ≡ b
met_once known [] a b x y = x ∙ sym y
met_once known (Always ∷ ps) a b x y = met_once known ps a b x y
met_once known (Of i ∷ ps) a b x y =
    ⊎_elim
    (λ h. ⊎_elim (λ k. met_once known ps a b h.1 k.1) (λ k. absurd (k.0 h.0)) y)
    (λ h. ⊎_elim (λ k. absurd (h.0 k.0)) (λ k. met_once (known ++ i.family ∷ []) ps a b h.1 k.1) y) x

met_between : (known : List Family) (ps qs : List Predicate) (after : List Family) → Meets known (ps ++ qs) after
    → (between : List Family) × Meets known ps between × Meets between qs after
met_between known [] qs after x = (known, refl, x)
met_between known (Always ∷ ps) qs after x = met_between known ps qs after x
met_between known (Of i ∷ ps) qs after x =
    ⊎_elim
    (λ h. let b = met_between known ps qs after h.1 in (b.0, inl (h.0, b.1), b.2))
    (λ h. let b = met_between (known ++ i.family ∷ []) ps qs after h.1 in (b.0, inr (h.0, b.1), b.2)) x

not_too_many : (known : List Family) (ps : List Predicate) (after : List Family) → AreTooMany known ps → Meets known ps after → length after ≤ 64 → ⊥
not_too_many known ps after many meets few =
    let b = met_between known many.some many.rest after (subst (λ l. Meets known l after) many.in_order meets) in
    let same = met_once known many.some b.0 many.after b.1 many.meets in
    let front = meets_front b.0 many.rest after b.2 in
    omega (arith, few, many.many, ap length same, ap length front.1, length-append b.0 front.0)

-- families are met once
met_apart : (known : List Family) (ps : List Predicate) (after : List Family) → Distinct known → Meets known ps after → Distinct after
met_apart known [] after apart x = subst Distinct (sym x) apart
met_apart known (Always ∷ ps) after apart x = met_apart known ps after apart x
met_apart known (Of i ∷ ps) after apart x =
    ⊎_elim (λ h. met_apart known ps after apart h.1)
    (λ h. met_apart (known ++ i.family ∷ []) ps after (last known i.family apart h.0) h.1) x
  where
    last_is : (xs : List Family) (f : Family) → take (length xs) xs ++ f ∷ drop (length xs) xs ≡ xs ++ f ∷ []
    last_is [] f = refl
    last_is (y ∷ xs) f = ap (λ l. y ∷ l) (last_is xs f)

    last : (xs : List Family) (f : Family) → Distinct xs → (Contains xs f → ⊥) → Distinct (xs ++ f ∷ [])
    last xs f distinct new = subst Distinct (last_is xs f) (put_distinct f xs (length xs) (omega arith) distinct new)

one_place : (xs : List Family) (n m : ℕ) (f : Family) → Distinct xs → slice_get xs n ≡ Some f → slice_get xs m ≡ Some f → n ≡ m
one_place xs n m f apart x y =
    ⊎_elim (λ (e : n ≡ m). e)
    (⊎_elim (λ (l : n < m). absurd (apart n m f l (slice_get_within xs m f y) (get_or_from_slice_get xs n f f x ∙ sym (get_or_from_slice_get xs m f f y))))
    (λ (l : m < n). absurd (apart m n f l (slice_get_within xs n f x) (get_or_from_slice_get xs m f f y ∙ sym (get_or_from_slice_get xs n f f x)))))
    (cases_order n m)

one_number : (families : List Family) (p : Predicate) (d e : Disjunct) → Distinct families → IsNumbered families p d → IsNumbered families p e → d ≡ e
one_number families Always disjunct.Always disjunct.Always apart x y = refl
one_number families Always (disjunct.Of n vars) e apart x y = absurd x
one_number families Always disjunct.Always (disjunct.Of n vars) apart x y = absurd y
one_number families (Of i) disjunct.Always e apart x y = absurd x
one_number families (Of i) (disjunct.Of n vars) disjunct.Always apart x y = absurd y
one_number families (Of i) (disjunct.Of n vars) (disjunct.Of m others) apart x y =
    let number = one_place families n m i.family apart x.0 y.0 in
    let names : vars ≡ others = x.1 ∙ sym y.1 in
    λ k. disjunct.Of (number k) (names k)

one_number_each : (families : List Family) (ps : List Predicate) (ds es : List Disjunct) → Distinct families → AllZip (IsNumbered families) ps ds
    → AllZip (IsNumbered families) ps es → ds ≡ es
one_number_each families [] [] [] apart x y = refl
one_number_each families [] (d ∷ ds) es apart x y = absurd x
one_number_each families [] [] (e ∷ es) apart x y = absurd y
one_number_each families (p ∷ ps) [] es apart x y = absurd x
one_number_each families (p ∷ ps) (d ∷ ds) [] apart x y = absurd y
one_number_each families (p ∷ ps) (d ∷ ds) (e ∷ es) apart x y =
    let one = one_number families p d e apart x.0 y.0 in
    let rest = one_number_each families ps ds es apart x.1 y.1 in
    λ i. one i ∷ rest i

abbrev IsReplied : Result Reply AskFault → Type 0
IsReplied (Ok r) = Unit {0}
IsReplied (Err e) = ⊥

replied_told : (r : Reply) (a : Result Reply AskFault) → Ok r ≡ a → a ≡ Err ask.Memory → ⊥
replied_told r a e f = subst IsReplied (e ∙ f) tt

zip_once : {X Y : Type 0} (R : X → Y → Type 0) → ((x : X) (y z : Y) → R x y → R x z → y ≡ z) → (xs : List X) (ys zs : List Y) → AllZip R xs ys → AllZip R xs zs
    → ys ≡ zs
zip_once R one [] [] [] a b = refl
zip_once R one [] (y ∷ ys) zs a b = absurd a
zip_once R one [] [] (z ∷ zs) a b = absurd b
zip_once R one (x ∷ xs) [] zs a b = absurd a
zip_once R one (x ∷ xs) (y ∷ ys) [] a b = absurd b
zip_once R one (x ∷ xs) (y ∷ ys) (z ∷ zs) a b =
    let first = one x y z a.0 b.0 in
    let rest = zip_once R one xs ys zs a.1 b.1 in
    λ i. first i ∷ rest i

module _ (form : Form) where
  same_reply : (known : List Family) (q : Question) (r s : Reply) → Comes form known q (Ok r) → Comes form known q (Ok s) → r ≡ s
  same_reply known q r s x y =
      let e = comes_once form known q (Ok r) (Ok s) (replied_told r (Ok r) refl) (replied_told s (Ok s) refl) x y in
      let same : r ≡ s = cc in
      same

  same_question : (known also : List Family) (n m : ℕ) (p q : Question) → known ≡ also → n ≡ m → slice_get (questions form known) n ≡ Some p
      → slice_get (questions form also) m ≡ Some q → p ≡ q
  same_question known also n m p q same at x y =
      let here : slice_get (questions form also) m ≡ Some p =
      subst (λ k. slice_get (questions form also) k ≡ Some p) at (subst (λ l. slice_get (questions form l) n ≡ Some p) same x) in
      let both : Some p ≡ Some q = sym here ∙ y in
      let one : p ≡ q = cc in
      one

  moved : (known also : List Family) (p q : Question) (a : Result Reply AskFault) → known ≡ also → p ≡ q → Comes form known p a → Comes form also q a
  moved known also p q a same one x = subst (λ z. Comes form also z a) one (subst (λ l. Comes form l p a) same x)

  -- after as many questions the same families are known
  asked_once : (n m : ℕ) (fs gs : List Family) → Asked form n fs → Asked form m gs → n ≡ m → fs ≡ gs
  asked_once n m fs gs none none e = refl
  asked_once n m fs gs none (next k known after q r asked at comes meets few) e = absurd (omega (arith, e))
  asked_once n m fs gs (next k known after q r asked at comes meets few) none e = absurd (omega (arith, e))
  asked_once n m fs gs (next k known after q r asked at comes meets few) (next j also later p s asked_p at_p comes_p meets_p few_p) e =
      let count : k ≡ j = omega (arith, e) in
      let same = asked_once k j known also asked asked_p count in
      let one = same_question known also k j q p same count at at_p in
      let reply = same_reply also p r s (moved known also q p (Ok r) same one comes) comes_p in
      let here = subst (λ x. Meets also x.disjuncts after) reply (subst (λ l. Meets l r.disjuncts after) same meets) in
      met_once also s.disjuncts after later here meets_p

  asked_apart : (n : ℕ) (fs : List Family) → Asked form n fs → Distinct fs
  asked_apart n fs none = none_distinct
  asked_apart n fs (next k known after q r asked at comes meets few) = met_apart known r.disjuncts after (asked_apart k known asked) meets

  -- a question that was asked and has a reply
  record Step (n : ℕ) : Type 0 where
    known : List Family
    after : List Family
    question : Question
    reply : Reply
    asked : Asked form n known
    at : slice_get (questions form known) n ≡ Some question
    comes : Comes form known question (Ok reply)
    meets : Meets known reply.disjuncts after
    few : length after ≤ 64

  step_at : (m : ℕ) (gs : List Family) → Asked form m gs → (n : ℕ) → n < m → Step n
  step_at m gs none n h = absurd (omega arith)
  step_at m gs (next k known after q r asked at comes meets few) n h =
      let at_most : n ≤ k = omega (arith, h) in
      ⊎_elim
      (λ (e : n ≡ k). subst Step (sym e)
      (record { known = known; after = after; question = q; reply = r; asked = asked; at = at; comes = comes; meets = meets; few = few }))
      (λ (l : n < k). step_at k known asked n l) (eq-or-lt_of_le at_most)

  -- why a question stops, by what it comes to
  abbrev fault_of : Result Reply AskFault → Question → DeriveFault
  fault_of (Ok r) q = Open Families q
  fault_of (Err ask.Path) q = Open Path q
  fault_of (Err ask.Cases) q = Cases q
  fault_of (Err ask.Cover) q = Open Cover q
  fault_of (Err ask.Memory) q = Memory

  -- where the reply has too many families
  abbrev Exceeds : Result Reply AskFault → List Family → Type 0
  Exceeds (Ok r) known = AreTooMany known r.disjuncts
  Exceeds (Err e) known = Unit {0}

  record IsStop (fault : DeriveFault) : Type 0 where
    known : List Family
    question : Question
    next : IsNext form known question
    outcome : Result Reply AskFault
    told : outcome ≢ Err ask.Memory
    comes : Comes form known question outcome
    exceeds : Exceeds outcome known
    is : fault ≡ fault_of outcome question

  abbrev TellsPath : Result Reply AskFault → Type 0
  TellsPath (Err ask.Path) = Unit {0}
  TellsPath r = ⊥

  abbrev TellsCases : Result Reply AskFault → Type 0
  TellsCases (Err ask.Cases) = Unit {0}
  TellsCases r = ⊥

  abbrev TellsCover : Result Reply AskFault → Type 0
  TellsCover (Err ask.Cover) = Unit {0}
  TellsCover r = ⊥

  stop_of : (fault : DeriveFault) → fault ≢ Memory → Stops form fault → IsStop fault
  stop_of (Open Path q) told s =
      record { known = s.0; question = q; next = s.1; outcome = Err ask.Path; told = λ e. subst TellsPath e tt; comes = s.2; exceeds = tt; is = refl }
  stop_of (Open Cover q) told s =
      record { known = s.0; question = q; next = s.1; outcome = Err ask.Cover; told = λ e. subst TellsCover e tt; comes = s.2; exceeds = tt; is = refl }
  stop_of (Open Families q) told s =
      record {
        known = s.0;
        question = q;
        next = s.1;
        outcome = Ok s.2.0;
        told = replied_told s.2.0 (Ok s.2.0) refl;
        comes = s.2.1;
        exceeds = s.2.2;
        is = refl;
      }
  stop_of (Cases q) told s =
      record { known = s.0; question = q; next = s.1; outcome = Err ask.Cases; told = λ e. subst TellsCases e tt; comes = s.2; exceeds = tt; is = refl }
  stop_of Memory told s = absurd (told refl)

  -- a question that stops has no step
  not_stepped : (fault : DeriveFault) (s : IsStop fault) → Step s.next.count → ⊥
  not_stepped fault s t =
      let same = asked_once s.next.count s.next.count t.known s.known t.asked s.next.asked refl in
      let one = same_question t.known s.known s.next.count s.next.count t.question s.question same refl t.at s.next.next in
      let here = moved t.known s.known t.question s.question (Ok t.reply) same one t.comes in
      let outcome = comes_once form s.known s.question (Ok t.reply) s.outcome (replied_told t.reply (Ok t.reply) refl) s.told here s.comes in
      not_too_many s.known t.reply.disjuncts t.after (subst (λ r. Exceeds r s.known) (sym outcome) s.exceeds)
      (subst (λ l. Meets l t.reply.disjuncts t.after) same t.meets) t.few

  one_stop : (first second : DeriveFault) → IsStop first → IsStop second → first ≡ second
  one_stop first second s t =
      ⊎_elim
      (λ (e : s.next.count ≡ t.next.count).
      let same = asked_once s.next.count t.next.count s.known t.known s.next.asked t.next.asked e in
      let one = same_question s.known t.known s.next.count t.next.count s.question t.question same e s.next.next t.next.next in
      let outcome = comes_once form t.known t.question s.outcome t.outcome s.told t.told
      (moved s.known t.known s.question t.question s.outcome same one s.comes) t.comes in
      s.is ∙ (λ i. fault_of (outcome i) (one i)) ∙ sym t.is)
      (⊎_elim
      (λ (l : s.next.count < t.next.count). absurd (not_stepped first s (step_at t.next.count t.known t.next.asked s.next.count l)))
      (λ (l : t.next.count < s.next.count). absurd (not_stepped second t (step_at s.next.count s.known s.next.asked t.next.count l))))
      (cases_order s.next.count t.next.count)

  -- where all questions are asked there is no other
  no_other : (fs known : List Family) (q : Question) → Asked form (length (questions form fs)) fs → Asked form (length (questions form fs)) known
      → slice_get (questions form known) (length (questions form fs)) ≡ Some q → ⊥
  no_other fs known q all asked at =
      let n = length (questions form fs) in
      let same = asked_once n n known fs asked all refl in
      let here = subst (λ l. slice_get (questions form l) n ≡ Some q) same at in
      omega (arith, slice_get_within (questions form fs) n q here)

  not_both : (a : Abstraction) (fault : DeriveFault) → Closes form a → IsStop fault → ⊥
  not_both a fault closes s =
      let n = length (questions form a.families) in
      ⊎_elim
      (λ (e : s.next.count ≡ n).
      no_other a.families s.known s.question closes.asked (subst (λ k. Asked form k s.known) e s.next.asked)
      (subst (λ k. slice_get (questions form s.known) k ≡ Some s.question) e s.next.next))
      (⊎_elim
      (λ (l : s.next.count < n). not_stepped fault s (step_at n a.families closes.asked s.next.count l))
      (λ (l : n < s.next.count).
      let t = step_at s.next.count s.known s.next.asked n l in
      no_other a.families t.known t.question closes.asked t.asked t.at))
      (cases_order s.next.count n)

  same_entry : (families : List Family) (q : Question) (ds es : List Disjunct) → Distinct families → IsEntry form families q ds
      → IsEntry form families q es → ds ≡ es
  same_entry families q ds es apart x y =
      let reply = same_reply families q x.0 y.0 x.1 y.1 in
      one_number_each families y.0.disjuncts ds es apart (subst (λ r. AllZip (IsNumbered families) r.disjuncts ds) reply x.2) y.2

  same_clause : (families : List Family) → Distinct families → (q : Question) (d e : ClauseFacts) → IsClauseReply form families q d
      → IsClauseReply form families q e → d ≡ e
  same_clause families apart q d e x y =
      let both : Clause d.method d.clause ≡ Clause e.method e.clause = sym x.0 ∙ y.0 in
      let method : d.method ≡ e.method = cc in
      let clause : d.clause ≡ e.clause = cc in
      let disjuncts = same_entry families q d.disjuncts e.disjuncts apart x.1 y.1 in
      λ i. record { method = method i; clause = clause i; disjuncts = disjuncts i }

  same_update : (families : List Family) → Distinct families → (q : Question) (d e : entry.Update) → IsUpdateReply form families q d
      → IsUpdateReply form families q e → d ≡ e
  same_update families apart q d e x y =
      let both : Update d.method d.results d.family ≡ Update e.method e.results e.family = sym x.0 ∙ y.0 in
      let method : d.method ≡ e.method = cc in
      let results : d.results ≡ e.results = cc in
      let family : d.family ≡ e.family = cc in
      let disjuncts = same_entry families q d.disjuncts e.disjuncts apart x.1 y.1 in
      λ i. record { method = method i; results = results i; family = family i; disjuncts = disjuncts i }

  same_families : (a b : Abstraction) → Closes form a → Closes form b → a.families ≡ b.families
  same_families a b x y =
      let n = length (questions form a.families) in
      let m = length (questions form b.families) in
      ⊎_elim (λ (e : n ≡ m). asked_once n m a.families b.families x.asked y.asked e)
      (⊎_elim
      (λ (l : n < m). let t = step_at m b.families y.asked n l in absurd (no_other a.families t.known t.question x.asked t.asked t.at))
      (λ (l : m < n). let t = step_at n a.families x.asked m l in absurd (no_other b.families t.known t.question y.asked t.asked t.at)))
      (cases_order n m)

  one_closing : (a b : Abstraction) → Closes form a → Closes form b → a ≡ b
  one_closing a b x y =
      let families = same_families a b x y in
      let apart = asked_apart (length (questions form b.families)) b.families y.asked in
      let clauses = zip_once (IsClauseReply form b.families) (same_clause b.families apart) (clause_questions form) a.clauses b.clauses
      (subst (λ l. AllZip (IsClauseReply form l) (clause_questions form) a.clauses) families x.clauses) y.clauses in
      let updates = zip_once (IsUpdateReply form b.families) (same_update b.families apart) (update_questions form b.families) a.updates b.updates
      (subst (λ l. AllZip (IsUpdateReply form l) (update_questions form l) a.updates) families x.updates) y.updates in
      λ i. record { families = families i; clauses = clauses i; updates = updates i }

pub ends_once : EndsOnce
ends_once form = record {
  closes = one_closing form;
  stops = λ first second told also x y. one_stop form first second (stop_of form first told x) (stop_of form second also y);
  either = λ a fault told x y. not_both form a fault x (stop_of form fault told y);
}

abbrev IsMemory : DeriveFault → Type 0
IsMemory Memory = Unit {0}
IsMemory fault = ⊥

is_memory : (fault : DeriveFault) → (fault ≡ Memory) ⊎ (fault ≢ Memory)
is_memory Memory = inl refl
is_memory (Open reason q) = inr (λ e. subst IsMemory (sym e) tt)
is_memory (Cases q) = inr (λ e. subst IsMemory (sym e) tt)

-- what the derivation answers, told from where it closes or stops
module _ (form : Form) (r : Result Abstraction DeriveFault) (closes : IfOk r (Closes form)) (stops : IfErr r (Stops form)) where
  pub whole_answer : (a : Abstraction) → Closes form a → MatchResult r (λ b. b ≡ a) (λ fault. fault ≡ Memory)
  whole_answer a is = by r closes stops
    where
      known : (fault : DeriveFault) → (fault ≡ Memory) ⊎ (fault ≢ Memory) → Stops form fault → fault ≡ Memory
      known fault which s = ⊎_elim (λ e. e) (λ told. absurd ((ends_once form).either a fault told is s)) which

      by : (r : Result Abstraction DeriveFault) → IfOk r (Closes form) → IfErr r (Stops form) → MatchResult r (λ b. b ≡ a) (λ fault. fault ≡ Memory)
      by (Ok b) c s = (ends_once form).closes b a c is
      by (Err fault) c s = known fault (is_memory fault) s

  pub first_answer : (fault : DeriveFault) → fault ≢ Memory → Stops form fault → IsErrAnd r (λ e. (e ≡ fault) ⊎ (e ≡ Memory))
  first_answer fault told is = by r closes stops
    where
      known : (e : DeriveFault) → (e ≡ Memory) ⊎ (e ≢ Memory) → Stops form e → (e ≡ fault) ⊎ (e ≡ Memory)
      known e which s = ⊎_elim (λ m. inr m) (λ also. inl ((ends_once form).stops e fault also told s is)) which

      by : (r : Result Abstraction DeriveFault) → IfOk r (Closes form) → IfErr r (Stops form) → IsErrAnd r (λ e. (e ≡ fault) ⊎ (e ≡ Memory))
      by (Ok a) c s = absurd ((ends_once form).either a fault told c is)
      by (Err e) c s = known e (is_memory e) s
