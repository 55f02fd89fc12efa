-- A task that has the rows of a term list's literals is one that the search can take.
use Rattle.std.proofs.Common.{◌≡◌, ℕ, ◌+◌, ◌*◌, ◌/◌, ◌<◌, ◌==◌, Bool, true, false, not, List, [], length, get_or, map, Contains, Some, refl, ap, sym, subst, ◌∙◌, inl, inr, ⊎_elim, arith, if◌then◌else◌}
use Rattle.std.specs.Prelude.{◌⊎◌, slice_get, slice_index}
use Rattle.std.specs.declared.cmp.Ordering.TheVariants.{Less}
use Rattle.std.proofs.lemmas.Bool.{cases_order}
use Rattle.std.proofs.lemmas.Bool.Decides.{eqb_tells}
use Rattle.std.proofs.lemmas.List.{length-map}
use Rattle.std.proofs.lemmas.Option.{get_or_from_slice_get, slice_get-get_or, slice_get_within}
use Rattle.std.proofs.lemmas.Slice.Zip.{AllZip-long}
use Rattle.access_paths.specs.{IsTermOf, answer, compare_terms, literal_holds}
use Rattle.access_paths.specs.Trees.{Tree}
use Rattle.access_paths.specs.declared.term.Literal.{Literal}
use Rattle.access_paths.specs.declared.term.Term.{Term}
use Rattle.access_paths.proofs.Orders.{terms_total}
use Rattle.case_model.specs.{IsConfiguration, IsTermList, by_blocks, place_of}
use Rattle.case_model.proofs.Terms.{found_at}
use Rattle.cube_search.specs.Cubes.{AreAsLong, IsEmpty, IsSet}
use Rattle.cube_search.specs.Lists.{IsIn, Rises}
use Rattle.cube_search.specs.declared.searching.Task.{Task}
use Rattle.cube_search.proofs.Lists.{each-from, each-in}
use Rattle.cube_search.proofs.Literals.{IsTable}
use Rattle.cube_cover.specs.{IsTaskOf, everywhere, literals_over, none_such}
use Rattle.cube_search.specs.Truths.{IsRowOf}
use Rattle.cube_cover.proofs.Few.{few_less, few_same, is_few}
use Rattle.cube_cover.proofs.Listed.{IsLessTerm, over_in, over_parts, over_rises}
use Rattle.cube_cover.proofs.Named.{at_map, in_contains, map_at, pairs_rises, zip_at, zip_each}
use Rattle.cube_cover.proofs.Order.{IsLessLiteral, term_not_less}
use Rattle.cube_cover.proofs.Words.{At, Holds, Is, IsOver, Wrong, there}

-- the bits of a row of what is true in each configuration
pub row_to : (f : List ℕ → Bool) (care : List (List ℕ)) (row : List ℕ) → IsRowOf (map f care) row → (x : ℕ × ℕ) → IsSet row x.0 x.1
    → (bs : List ℕ) × At care x bs × (f bs ≡ true)
row_to f care row is x set =
    let t = (is.bits x).0 set in
    let m = at_map f care (64 * x.0 + x.1) true t.1 in
    (m.0, (t.0, m.1), m.2)

pub row_from : (f : List ℕ → Bool) (care : List (List ℕ)) (row : List ℕ) → IsRowOf (map f care) row → (x : ℕ × ℕ) (bs : List ℕ) → At care x bs → f bs ≡ true
    → IsSet row x.0 x.1
row_from f care row is x bs at so = (is.bits x).1 (at.0, map_at f care (64 * x.0 + x.1) bs at.1 ∙ ap Some so)

never_to : (f : List ℕ → Bool) (care : List (List ℕ)) (row : List ℕ) → IsRowOf (map not (map f care)) row → (x : ℕ × ℕ) → IsSet row x.0 x.1
    → (bs : List ℕ) × At care x bs × (f bs ≡ false)
never_to f care row is x set =
    let t = (is.bits x).0 set in
    let n = at_map not (map f care) (64 * x.0 + x.1) true t.1 in
    let m = at_map f care (64 * x.0 + x.1) n.0 n.1 in
    (m.0, (t.0, m.1), m.2 ∙ opposite n.0 n.2)
  where
    opposite : (b : Bool) → not b ≡ true → b ≡ false
    opposite true h = absurd (cc)
    opposite false h = refl

never_from : (f : List ℕ → Bool) (care : List (List ℕ)) (row : List ℕ) → IsRowOf (map not (map f care)) row → (x : ℕ × ℕ) (bs : List ℕ) → At care x bs
    → f bs ≡ false → IsSet row x.0 x.1
never_from f care row is x bs at so =
    (is.bits x).1 (at.0, map_at not (map f care) (64 * x.0 + x.1) (f bs) (map_at f care (64 * x.0 + x.1) bs at.1) ∙ ap (λ b. Some (not b)) so)

module _ (ts : List Term) (classes : List ℕ) (is : IsTermList ts classes) where
  pub as_many : length classes ≡ length ts
  as_many = AllZip-long (IsTermOf is.form is.variables) ts classes is.typed

  -- the lesser of two terms stands first
  first_stands : (t u : Term) (i j : ℕ) → slice_get ts i ≡ Some t → slice_get ts j ≡ Some u → compare_terms t u ≡ Less → i < j
  first_stands t u i j at at' less =
      ⊎_elim
      (λ (e : i ≡ j). absurd (term_not_less t u (let one : Some t ≡ Some u = sym at ∙ ap (slice_get ts) e ∙ at' in cc) less))
      (⊎_elim
      (λ (l : i < j). l)
      (λ (l : j < i).
      let turned : compare_terms u t ≡ Less =
      subst (λ w. compare_terms u w ≡ Less) (get_or_from_slice_get ts i t t at)
      (subst (λ v. compare_terms v (get_or ts i t) ≡ Less) (get_or_from_slice_get ts j u t at') (is.terms.ordered j i t l (slice_get_within ts i t at))) in
      absurd (term_not_less t t refl (terms_total.trans t u t less turned))))
      (cases_order i j)

  -- a literal of the list is in the table, or its terms are never joined
  pub listed : (l : Literal) → IsOver ts l
      → IsIn l (literals_over ts classes) ⊎ ((bs : List ℕ) → IsConfiguration ts classes bs → by_blocks ts bs l.less l.more ≡ false)
  listed l over =
      let i = place_of ts l.less in
      let j = place_of ts l.more in
      let at = found_at ts l.less over.0 in
      let at' = found_at ts l.more over.1 in
      let low : i < length ts = slice_get_within ts i l.less at in
      let high : j < length ts = slice_get_within ts j l.more at' in
      ⊎_elim
      (λ (e : ((slice_index classes i == slice_index classes j) ≡ true) × (slice_index classes i ≡ slice_index classes j)).
      inl (over_in ts classes i j l.less l.more (slice_index classes i) l.same (first_stands l.less l.more i j at at' over.2) at at'
      (slice_get-get_or classes i 0 (omega (arith, as_many, low)))
      (slice_get-get_or classes j 0 (omega (arith, as_many, high)) ∙ ap Some (sym e.1))))
      (λ e. inr (λ bs configuration. apart bs configuration i j low high e.1))
      (eqb_tells (slice_index classes i) (slice_index classes j))
    where
      apart : (bs : List ℕ) → IsConfiguration ts classes bs → (i j : ℕ) → i < length ts → j < length ts → (slice_index classes i ≡ slice_index classes j → ⊥)
          → (slice_index bs i == slice_index bs j) ≡ false
      apart bs configuration i j low high differ =
          ⊎_elim
          (λ (e : ((slice_index bs i == slice_index bs j) ≡ true) × (slice_index bs i ≡ slice_index bs j)).
          absurd (differ (configuration.one_class i j low high e.1)))
          (λ e. e.0)
          (eqb_tells (slice_index bs i) (slice_index bs j))

  module _ (care : List (List ℕ)) (configurations : (bs : List ℕ) → Contains care bs → IsConfiguration ts classes bs) (tree : Tree) (task : Task)
      (made : IsTaskOf ts care tree (literals_over ts classes) task) where
    complete : (l : Literal) → IsOver ts l → IsIn l (literals_over ts classes)
        ⊎ (((x : ℕ × ℕ) → Is ts care tree x → Holds ts care tree l x) ⊎ ((x : ℕ × ℕ) → Is ts care tree x → Holds ts care tree l x → ⊥))
    complete l over =
        ⊎_elim
        (λ (i : IsIn l (literals_over ts classes)). inl i)
        (λ (never : (bs : List ℕ) → IsConfiguration ts classes bs → by_blocks ts bs l.less l.more ≡ false). inr (constant (l.same) refl never))
        (listed l over)
      where
        opposite : (same one : Bool) → one ≡ false → (if same then one else not one) ≡ not same
        opposite true one e = e
        opposite false one e = ap not e

        constant : (b : Bool) → l.same ≡ b → ((bs : List ℕ) → IsConfiguration ts classes bs → by_blocks ts bs l.less l.more ≡ false)
            → ((x : ℕ × ℕ) → Is ts care tree x → Holds ts care tree l x) ⊎ ((x : ℕ × ℕ) → Is ts care tree x → Holds ts care tree l x → ⊥)
        constant true e never = inr (λ x at holds.
            let no_more = opposite l.same (by_blocks ts holds.0 l.less l.more) (never holds.0 (configurations holds.0 (there ts care tree x holds.0 holds.1))) in
            let so = holds.2 in
            let not_so : not l.same ≡ false = ap not e in
            cc)
        constant false e never = inl (λ x at.
            (at.0, at.1, opposite l.same (by_blocks ts at.0 l.less l.more) (never at.0 (configurations at.0 (there ts care tree x at.0 at.1))) ∙ ap not e))

    pub is_table : IsTable IsLessLiteral (Holds ts care tree) (Is ts care tree) (Wrong ts care tree) (IsOver ts) is_few none_such (literals_over ts classes) task
    is_table = record {
      ordered = over_rises ts classes rise;
      over = each-from (IsOver ts) (literals_over ts classes)
          (λ l i. let p = each-in _ (literals_over ts classes) l (over_parts ts classes rise) i in (in_contains l.less ts p.0, in_contains l.more ts p.1, p.2));
      complete = complete;
      as_many = AllZip-long _ (literals_over ts classes) task.rows.items made.rows;
      rows_to = λ n x h set. row_to _ care _ (zip_at _ (literals_over ts classes) task.rows.items n none_such [] made.rows h) x set;
      rows_from = λ n x h is holds. row_from _ care _ (zip_at _ (literals_over ts classes) task.rows.items n none_such [] made.rows h) x holds.0 holds.1 holds.2;
      all_to = λ x set. let r = row_to (λ bs. true) care task.all made.all x set in (r.0, r.1);
      all_from = λ x is. row_from (λ bs. true) care task.all made.all x is.0 is.1 refl;
      never_to = λ x set. never_to (λ bs. answer (by_blocks ts bs) tree) care task.never made.never x set;
      never_from = λ x is wrong. never_from (λ bs. answer (by_blocks ts bs) tree) care task.never made.never x wrong.0 wrong.1 wrong.2;
      few_same = few_same (literals_over ts classes) task.variables.items
          (λ n h. ap (λ vs. slice_get vs n) made.variables
          ∙ map_at (λ l. (l.less.var.0, l.more.var.0)) (literals_over ts classes) n (get_or (literals_over ts classes) n none_such)
          (slice_get-get_or (literals_over ts classes) n none_such h));
      few_less = few_less;
    }
      where
        rise : Rises IsLessTerm ts
        rise = pairs_rises IsLessTerm ts is.terms.ordered

    -- where no bit is set
    pub none_empty : (none : List ℕ) → IsRowOf (everywhere false care) none → IsEmpty none
    none_empty none row word bit set = let r = row_to (λ bs. false) care none row (word, bit) set in absurd (let f = r.2 in cc)

    pub as_long : (none : List ℕ) → IsRowOf (everywhere false care) none → AreAsLong task none
    as_long none row =
        let words : length none ≡ length care / 64 + 1 = row.words ∙ ap (λ n. n / 64 + 1) (length-map care (λ bs. false)) in
        record {
          rows = zip_each _ (λ r. length r ≡ length none)
              (λ l r is. is.words ∙ ap (λ n. n / 64 + 1) (length-map care (λ bs. literal_holds (by_blocks ts bs) l)) ∙ sym words)
              (literals_over ts classes) task.rows.items made.rows;
          all = made.all.words ∙ ap (λ n. n / 64 + 1) (length-map care (λ bs. true)) ∙ sym words;
          wanted = made.wanted.words ∙ ap (λ n. n / 64 + 1) (length-map care (λ bs. answer (by_blocks ts bs) tree)) ∙ sym words;
        }
