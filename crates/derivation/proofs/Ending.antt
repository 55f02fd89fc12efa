-- From the first question to the last.
use Rattle.std.proofs.Common.{◌≡◌, ℕ, zero, suc, ◌+◌, ◌<◌, ◌≤◌, List, [], ◌∷◌, ◌++◌, Some, drop, length, map, slice_get, take, refl, ap, sym, subst, ◌∙◌, arith, append_assoc, append-nil, length-append, length-take-le}
use Rattle.std.specs.List.{AllZip, range_with_len}
use Rattle.std.proofs.lemmas.List.{take_all}
use Rattle.std.proofs.lemmas.Option.{slice_get_within}
use Rattle.easl_model.specs.Form.{Form}
use Rattle.easl_model.specs.declared.form.Method.{Method}
use Rattle.access_paths.specs.declared.term.Family.{Family}
use Rattle.method_abstraction.specs.{clause_count, clause_questions, clauses_from, questions, result_sets, update_questions, updates_by, updates_from}
use Rattle.method_abstraction.specs.declared.entry.Abstraction.{Abstraction}
use Rattle.method_abstraction.specs.declared.entry.ClauseFacts.{ClauseFacts}
use Rattle.method_abstraction.specs.declared.entry.Question.{Question}
use Rattle.method_abstraction.specs.declared.entry.Question.TheVariants.{Clause, Update}
use Rattle.method_abstraction.specs.declared.entry.Update as entry
use Rattle.derivation.specs.Closing.{Closes, none, IsClauseReply, IsUpdateReply}
use Rattle.derivation.specs.Rounds.{AreNext, IsSoFar, asked_to, clauses_in, updates_in}
use Rattle.derivation.proofs.Meeting.{front_get}
use Rattle.derivation.proofs.Rounds.{clauses_in-append, questions_append, take_front, updates_in-append}

-- nothing is asked at first
pub none_asked : (form : Form) → IsSoFar form 0 [] [] []
none_asked form = record { asked = none; clause_entries = tt; update_entries = tt }

pub clauses_next : (form : Form) → AreNext form [] 0 (clause_questions form)
clauses_next form k q at =
    let e : k ≡ 0 + k = omega arith in
    subst (λ j. slice_get (questions form []) j ≡ Some q) e (front_get (clause_questions form) [] k q at)

pub clauses_counted : (form : Form) (families : List Family) (clauses : List ClauseFacts) (updates : List entry.Update)
    → IsSoFar form (0 + length (clause_questions form)) families clauses updates → IsSoFar form (asked_to form families 0) families clauses updates
clauses_counted form families clauses updates so_far =
    let e : 0 + length (clause_questions form) ≡ asked_to form families 0 =
    omega (arith, length-append (clause_questions form) (update_questions form [])) in
    subst (λ n. IsSoFar form n families clauses updates) e so_far

behind_get : {X : Type 0} (xs ys : List X) (k : ℕ) → slice_get (xs ++ ys) (length xs + k) ≡ slice_get ys k
behind_get [] ys k = let e : 0 + k ≡ k = omega arith in ap (slice_get ys) e
behind_get (x ∷ xs) ys k =
    let e : length (x ∷ xs) + k ≡ suc (length xs + k) = omega arith in
    ap (slice_get (x ∷ (xs ++ ys))) e ∙ behind_get xs ys k

parted : {X : Type 0} (xs : List X) (n : ℕ) (x : X) → slice_get xs n ≡ Some x → xs ≡ take n xs ++ x ∷ drop (suc n) xs
parted [] n x at = absurd (cc)
parted (y ∷ xs) zero x at = let e : y ≡ x = cc in ap (λ z. z ∷ xs) e
parted (y ∷ xs) (suc n) x at = ap (λ l. y ∷ l) (parted xs n x at)

module _ (form : Form) (families : List Family) (number : ℕ) (family : Family) (at : slice_get families number ≡ Some family) where
  within : number < length families
  within = slice_get_within families number family at

  size : length (take number families) ≡ number
  size = length-take-le number families (omega (arith, within))

  -- the questions on the next family are next
  pub family_next : AreNext form families (asked_to form families number) (updates_by number family 0 form.methods)
  family_next k q there =
      let front = take number families in
      let back = drop (suc number) families in
      let rest = updates_from form (suc (length front)) back in
      let all : questions form families ≡ questions form front ++ (updates_by (length front) family 0 form.methods ++ rest) =
      ap (questions form) (parted families number family at) ∙ questions_append form front (family ∷ back) in
      let here : slice_get (updates_by (length front) family 0 form.methods) k ≡ Some q =
      ap (λ n. slice_get (updates_by n family 0 form.methods) k) size ∙ there in
      ap (λ l. slice_get l (asked_to form families number + k)) all
      ∙ behind_get (questions form front) (updates_by (length front) family 0 form.methods ++ rest) k
      ∙ front_get (updates_by (length front) family 0 form.methods) rest k q here

  -- once they are asked, one family more is done
  pub family_counted : (after : List Family) (clauses : List ClauseFacts) (updates : List entry.Update) → ((more : List Family) × (after ≡ families ++ more))
      → IsSoFar form (asked_to form families number + length (updates_by number family 0 form.methods)) after clauses updates
      → IsSoFar form (asked_to form after (number + 1)) after clauses updates
  family_counted after clauses updates longer so_far =
      let front = take number families in
      let back = drop (suc number) families in
      let one : suc number ≡ number + 1 = omega arith in
      let whole : after ≡ (front ++ family ∷ []) ++ (back ++ longer.0) =
      longer.1 ∙ ap (λ l. l ++ longer.0) (parted families number family at ∙ sym (append_assoc front (family ∷ []) back))
      ∙ append_assoc (front ++ family ∷ []) back longer.0 in
      let long : length (front ++ family ∷ []) ≡ number + 1 = omega (arith, size, length-append front (family ∷ [])) in
      let taken : take (number + 1) after ≡ front ++ family ∷ [] =
      ap (take (number + 1)) whole ∙ take_front (front ++ family ∷ []) (back ++ longer.0) (number + 1) (omega (arith, long))
      ∙ take_all (number + 1) (front ++ family ∷ []) (omega (arith, long)) in
      let by_number : updates_by (length front) family 0 form.methods ≡ updates_by number family 0 form.methods =
      ap (λ n. updates_by n family 0 form.methods) size in
      let all : questions form (take (number + 1) after) ≡ questions form front ++ (updates_by number family 0 form.methods ++ []) =
      ap (questions form) taken ∙ questions_append form front (family ∷ []) ∙ ap (λ l. questions form front ++ (l ++ [])) by_number in
      let count : asked_to form families number + length (updates_by number family 0 form.methods) ≡ asked_to form after (number + 1) =
      sym (ap length (all ∙ ap (λ l. questions form front ++ l) (append-nil (updates_by number family 0 form.methods)))
      ∙ length-append (questions form front) (updates_by number family 0 form.methods)) in
      subst (λ n. IsSoFar form n after clauses updates) count so_far

-- clause questions and update questions
clause_map : (n : ℕ) (ks : List ℕ) → (clauses_in (map (λ k. Clause n k) ks) ≡ map (λ k. Clause n k) ks) × (updates_in (map (λ k. Clause n k) ks) ≡ [])
clause_map n [] = (refl, refl)
clause_map n (k ∷ ks) = let rest = clause_map n ks in (ap (λ l. Clause n k ∷ l) rest.0, rest.1)

update_map : (n number : ℕ) (rs : List ℕ)
    → (clauses_in (map (λ r. Update n r number) rs) ≡ []) × (updates_in (map (λ r. Update n r number) rs) ≡ map (λ r. Update n r number) rs)
update_map n number [] = (refl, refl)
update_map n number (r ∷ rs) = let rest = update_map n number rs in (rest.0, ap (λ l. Update n r number ∷ l) rest.1)

joined : (xs ys cs ds : List Question) → clauses_in xs ≡ cs → clauses_in ys ≡ ds → clauses_in (xs ++ ys) ≡ cs ++ ds
joined xs ys cs ds e f = clauses_in-append xs ys ∙ (λ i. e i ++ f i)

joined_updates : (xs ys cs ds : List Question) → updates_in xs ≡ cs → updates_in ys ≡ ds → updates_in (xs ++ ys) ≡ cs ++ ds
joined_updates xs ys cs ds e f = updates_in-append xs ys ∙ (λ i. e i ++ f i)

in_clauses : (n : ℕ) (ms : List Method) → (clauses_in (clauses_from n ms) ≡ clauses_from n ms) × (updates_in (clauses_from n ms) ≡ [])
in_clauses n [] = (refl, refl)
in_clauses n (m ∷ ms) =
    let first = clause_map n (range_with_len 1 (clause_count m)) in
    let rest = in_clauses (suc n) ms in
    let xs = map (λ k. Clause n k) (range_with_len 1 (clause_count m)) in
    (joined xs (clauses_from (suc n) ms) xs (clauses_from (suc n) ms) first.0 rest.0, joined_updates xs (clauses_from (suc n) ms) [] [] first.1 rest.1)

in_updates_by : (number : ℕ) (f : Family) (n : ℕ) (ms : List Method)
    → (clauses_in (updates_by number f n ms) ≡ []) × (updates_in (updates_by number f n ms) ≡ updates_by number f n ms)
in_updates_by number f n [] = (refl, refl)
in_updates_by number f n (m ∷ ms) =
    let first = update_map n number (result_sets m f) in
    let rest = in_updates_by number f (suc n) ms in
    let xs = map (λ r. Update n r number) (result_sets m f) in
    let ys = updates_by number f (suc n) ms in
    (joined xs ys [] [] first.0 rest.0, joined_updates xs ys xs ys first.1 rest.1)

in_updates : (form : Form) (n : ℕ) (fs : List Family)
    → (clauses_in (updates_from form n fs) ≡ []) × (updates_in (updates_from form n fs) ≡ updates_from form n fs)
in_updates form n [] = (refl, refl)
in_updates form n (f ∷ fs) =
    let first = in_updates_by n f 0 form.methods in
    let rest = in_updates form (suc n) fs in
    let xs = updates_by n f 0 form.methods in
    let ys = updates_from form (suc n) fs in
    (joined xs ys [] [] first.0 rest.0, joined_updates xs ys xs ys first.1 rest.1)

-- once no family is left, all are asked
pub families_asked : (form : Form) (number : ℕ) (families : List Family) (clauses : List ClauseFacts) (updates : List entry.Update) → length families ≤ number
    → IsSoFar form (asked_to form families number) families clauses updates → IsSoFar form (length (questions form families)) families clauses updates
families_asked form number families clauses updates most so_far =
    subst (λ n. IsSoFar form n families clauses updates) (ap (λ l. length (questions form l)) (take_all number families most)) so_far

-- and the specification closes
pub all_closed : (form : Form) (a : Abstraction) → IsSoFar form (length (questions form a.families)) a.families a.clauses a.updates → Closes form a
all_closed form a done =
    let all : take (length (questions form a.families)) (questions form a.families) ≡ questions form a.families =
    take_all (length (questions form a.families)) (questions form a.families) (omega arith) in
    let cs = in_clauses 0 form.methods in
    let us = in_updates form 0 a.families in
    let clauses : clauses_in (questions form a.families) ≡ clause_questions form =
    joined (clause_questions form) (update_questions form a.families) (clause_questions form) [] cs.0 us.0 ∙ append-nil (clause_questions form) in
    let updates : updates_in (questions form a.families) ≡ update_questions form a.families =
    joined_updates (clause_questions form) (update_questions form a.families) [] (update_questions form a.families) cs.1 us.1 in
    record {
      asked = done.asked;
      clauses = subst (λ qs. AllZip (IsClauseReply form a.families) qs a.clauses) (ap clauses_in all ∙ clauses) done.clause_entries;
      updates = subst (λ qs. AllZip (IsUpdateReply form a.families) qs a.updates) (ap updates_in all ∙ updates) done.update_entries;
    }
