-- Each call's tests decide its needs, in their order; its numbers are listed and rise; it has figures or none, and is a lay or another.
use mathlib.Core.Path.{◌≡◌, refl, sym, ap, ◌∙◌}
use mathlib.Core.Bool.{Bool, true, false, not, ◌&&◌, ◌||◌}
use mathlib.Core.List.{List, [], ◌∷◌}
use mathlib.Core.Logic.{◌↔◌, ◌⊎◌, inl, inr, ⊎_elim}
use Prim.Native.Nat.{ℕ, ◌<◌}
use native.Mathlib.Omega.{arith}
use lib.Dec.{ltb, leb, eqb}
use borrow.Author.Tests.{ltb-true, lt-ltb, leb-true, eqb-true, eq-eqb, ne_eqb, not-false}
use Rattle.basics.proofs.Tests.{clash, and_left, and_right, and_both, or_left, or_right, or_cases, or_false_left, or_false_right}
use Rattle.quorum.specs.Configurations.{is_place}
use Rattle.quorum.proofs.Promise.{promise}
use Rattle.layout.specs.Layout.{listed}
use Rattle.layout.proofs.Sizes.{sized}
use Rattle.layout.specs.Fields.{Kind, none, read, write, change}
use Rattle.layout.specs.View.{State, view, on_bus}
use Rattle.plan.specs.Plan.{start_on, planned_polls}
use Rattle.plan.proofs.Plan.{in_hearing}
use Rattle.rules.specs.Calls.{Call, lay, open_read, open_write, open_change, poll, put, commit, abandon, link, reach, diagnose, plan}
use Rattle.rules.specs.Calls.{is_lay, is_data, is_config_sort}
use Rattle.rules.specs.Rules.{first, tests, refusals, number_of, idle, wrong_put, spent_at_put}
use Rattle.rules.specs.Figures.{figures_of, no_figures}
use Rattle.rules.specs.Reply.{reply_of}
use Rattle.rules.specs.Demand1.{HasFigures, of_poll, of_commit, of_reach, of_diagnose, of_plan, ListedNumber}
use Rattle.rules.specs.Demand2.{Found}
use Rattle.rules.specs.Needs.{Gets, numbers, Rise, RightPut, SpentAtPut, InHearing, needs, Allowed, Numbers}
use Rattle.rules.proofs.Chains.{Decides, Listed, first_fails, first_applies, exactly, gets-zero, gets_fails, gets-lowest}
use Rattle.rules.proofs.Quorums.{passes, negated, both, is_spent, is_written, heard_by_lem, heard_exactly, of_every, of_none}
use Rattle.rules.proofs.Quorums.{version_found, generation_found}

-- a lay
pub data IsLay : Call → Type 0 where
  of_lay : {n m value : ℕ} {config : List ℕ} → IsLay (lay n m value config)

-- ---- tests that fail, and the facts that they leave
same : {A : Type 0} → A ↔ A
same = (λ a. a, λ a. a)

below : (a b : ℕ) → (not (ltb a b) ≡ false) ↔ (a < b)
below a b = passes (ltb a b) (ltb-true a b, lt-ltb a b)

pub idle_none : (k : Kind) → (idle k ≡ true) ↔ (k ≡ none)
idle_none none = (λ e. refl, λ e. refl)
idle_none read = (λ e. clash refl (sym e), λ e. ap idle e)
idle_none write = (λ e. clash refl (sym e), λ e. ap idle e)
idle_none change = (λ e. clash refl (sym e), λ e. ap idle e)

no_round_lem : (k : Kind) → (not (idle k) ≡ false) ↔ (k ≡ none)
no_round_lem k = passes (idle k) (idle_none k)

pub a_round : (k : Kind) → (idle k ≡ false) ↔ (k ≡ none → ⊥)
a_round k = negated (idle k) (idle_none k)

one_of : (a x y : ℕ) → (not (eqb a x || eqb a y) ≡ false) ↔ ((a ≡ x) ⊎ (a ≡ y))
one_of a x y = (
  λ e. or_cases (eqb a x) (eqb a y) (not-false _ e) (λ h. inl (eqb-true a x h)) (λ h. inr (eqb-true a y h)),
  λ s. ap not (⊎_elim (λ h. or_left (eqb a x) (eqb a y) (eq-eqb a x h)) (λ h. or_right (eqb a x) (eqb a y) (eq-eqb a y h)) s),
)

pub at_station : (n s a x y : ℕ) → ((not (ltb s n) || not (eqb a x || eqb a y)) ≡ false) ↔ ((s < n) × ((a ≡ x) ⊎ (a ≡ y)))
at_station n s a x y = (
  λ e. ((below s n).0 (or_false_left _ _ e), (one_of a x y).0 (or_false_right (not (ltb s n)) _ e)),
  λ h. rw ((below s n).1 h.0) ((one_of a x y).1 h.1),
)

empty : (a b : ℕ) → (not (eqb a 0 && eqb b 0) ≡ false) ↔ ((a ≡ 0) × (b ≡ 0))
empty a b = (
  λ e. let h = not-false _ e in (eqb-true a 0 (and_left _ (eqb b 0) h), eqb-true b 0 (and_right (eqb a 0) _ h)),
  λ h. ap not (and_both _ _ (eq-eqb a 0 h.0) (eq-eqb b 0 h.1)),
)

-- a put's last two tests, of a sort that there is
right_put : (k : Kind) (sort : ℕ) → (sort ≡ 1) ⊎ (sort ≡ 2) → (wrong_put k sort ≡ false) ↔ RightPut k sort
right_put none sort q = (λ e. clash refl e, λ h. absurd h)
right_put read sort q = (λ e. clash refl e, λ h. absurd h)
right_put write sort q = (λ e. ⊎_elim (λ h. h) (λ h. clash (eq-eqb sort 2 h) e) q, λ h. ne_eqb sort 2 (λ z. omega arith))
right_put change sort q = (λ e. tt, λ h. refl)

-- numbers of document 01's table, which every call may have
abbrev in_paper : List ℕ → Bool
in_paper [] = true
in_paper (k ∷ rest) = (leb 1 k && leb k 11) && in_paper rest

in_paper_lem : (c : Call) (l : List ℕ) → in_paper l ≡ true → Listed (ListedNumber c) l
in_paper_lem c [] e = tt
in_paper_lem c (k ∷ rest) e =
    let here = and_left (leb 1 k && leb k 11) (in_paper rest) e in
    (leb-true 1 k (and_left _ (leb k 11) here), inl (leb-true k 11 (and_right (leb 1 k) _ here)), in_paper_lem c rest (and_right (leb 1 k && leb k 11) _ e))

module _ (v : State) where
  spent_put : (f : Found v) (k : Kind) (sort : ℕ) → (spent_at_put v k sort ≡ true) ↔ SpentAtPut v f k sort
  spent_put f none sort = (λ e. clash e refl, λ z. absurd z)
  spent_put f read sort = (λ e. clash e refl, λ z. absurd z)
  spent_put f write sort = both (is_data sort) _ (eqb-true sort 1, eq-eqb sort 1) (is_spent v f write)
  spent_put f change sort = both (is_config_sort sort) _ (eqb-true sort 2, eq-eqb sort 2) (is_spent v f change)

  pub record Judged (c : Call) : Type 0 where
    pub decided : Decides (refusals v c) (needs v c)
    pub listed : Listed (ListedNumber c) (numbers (needs v c))
    pub rising : is_lay c ≡ false → Rise 0 (numbers (needs v c))
    pub figures : HasFigures c ⊎ (figures_of v c ≡ no_figures)
    pub lay? : IsLay c ⊎ (is_lay c ≡ false)

  abbrev is_sound : (not v.is_sound ≡ false) ↔ (v.is_sound ≡ true)
  is_sound = passes v.is_sound same

  abbrev kind : Kind
  kind = v.round.kind

  -- some start of the stations on the bus is heard
  pub heard-start : (i : ℕ) → (is_place (planned_polls v i) ≡ true) ↔ InHearing v i
  heard-start i = (
    λ e. let h = (in_hearing (v.copies i) (on_bus v) v.n).0 e in let x = (heard_by_lem v i (start_on v h.0)).0 h.1 in (h.0, x.0, x.1),
    λ h. (in_hearing (v.copies i) (on_bus v) v.n).1 (h.0, (heard_by_lem v i (start_on v h.0)).1 (h.1, h.2)),
  )

  pub judged : (c : Call) → Judged c
  unfolding refusals tests needs figures_of
  judged (lay n m value config) =
      record {
        decided = (refl, passes (listed n m) (sized n m), λ _. (refl, passes _ same, λ _. (refl, passes _ (promise.valid_exactly n config), λ _. tt)));
        listed = in_paper_lem (lay n m value config) (2 ∷ 1 ∷ 3 ∷ []) refl;
        rising = λ l. clash refl l;
        figures = inr refl;
        lay? = inl of_lay;
      }
  judged (open_read i) =
      record {
        decided = (refl, is_sound, λ _. (refl, below i v.m, λ _. (refl, no_round_lem kind, λ _. tt)));
        listed = in_paper_lem (open_read i) (1 ∷ 2 ∷ 4 ∷ []) refl;
        rising = λ l. (omega arith, (omega arith, (omega arith, tt)));
        figures = inr refl;
        lay? = inr refl;
      }
  judged (open_write i value) =
      record {
        decided = (refl, is_sound, λ _. (refl, below i v.m, λ _. (refl, no_round_lem kind, λ _. tt)));
        listed = in_paper_lem (open_write i value) (1 ∷ 2 ∷ 4 ∷ []) refl;
        rising = λ l. (omega arith, (omega arith, (omega arith, tt)));
        figures = inr refl;
        lay? = inr refl;
      }
  judged (open_change i target) =
      record {
        decided = (
          refl,
          is_sound,
          λ _. (refl, below i v.m, λ _. (refl, passes _ (promise.valid_exactly v.n target), λ _. (refl, no_round_lem kind, λ _. tt))),
        );
        listed = in_paper_lem (open_change i target) (1 ∷ 2 ∷ 3 ∷ 4 ∷ []) refl;
        rising = λ l. (omega arith, (omega arith, (omega arith, (omega arith, tt))));
        figures = inr refl;
        lay? = inr refl;
      }
  judged (poll s) =
      record {
        decided = (
          refl,
          is_sound,
          λ _. (refl, below s v.n, λ _. (refl, a_round kind, λ _. (refl, same, λ _. (refl, empty v.round.data_puts v.round.config_puts, λ _. tt)))),
        );
        listed = in_paper_lem (poll s) (1 ∷ 2 ∷ 5 ∷ 6 ∷ 7 ∷ []) refl;
        rising = λ l. (omega arith, (omega arith, (omega arith, (omega arith, (omega arith, tt)))));
        figures = inl of_poll;
        lay? = inr refl;
      }
  judged (put s sort) =
      record {
        decided = (
          refl,
          is_sound,
          λ _. (
            refl,
            at_station v.n s sort 1 2,
            λ q. (
              refl,
              a_round kind,
              λ _. (
                refl,
                same,
                λ _. (
                  refl,
                  passes _ (heard_exactly v),
                  λ h.
                      (refl, right_put kind sort q.1, λ _. (refl, of_none v h _ _ (λ f. spent_put f kind sort), λ _. tt)),
                ),
              ),
            ),
          ),
        );
        listed = in_paper_lem (put s sort) (1 ∷ 2 ∷ 5 ∷ 6 ∷ 8 ∷ 9 ∷ 10 ∷ []) refl;
        rising = λ l. (omega arith, (omega arith, (omega arith, (omega arith, (omega arith, (omega arith, (omega arith, tt)))))));
        figures = inr refl;
        lay? = inr refl;
      }
  judged commit =
      record {
        decided = (
          refl,
          is_sound,
          λ _. (
            refl,
            a_round kind,
            λ _. (
              refl,
              passes _ (heard_exactly v),
              λ h. (
                refl,
                of_none v h _ _ (λ f. is_spent v f kind),
                λ _.
                    (refl, passes _ (of_every v h _ _ (λ f. is_written v f kind)), λ _. tt),
              ),
            ),
          ),
        );
        listed = in_paper_lem commit (1 ∷ 5 ∷ 8 ∷ 10 ∷ 11 ∷ []) refl;
        rising = λ l. (omega arith, (omega arith, (omega arith, (omega arith, (omega arith, tt)))));
        figures = inl of_commit;
        lay? = inr refl;
      }
  judged abandon =
      record {
        decided = (refl, is_sound, λ _. (refl, a_round kind, λ _. tt));
        listed = in_paper_lem abandon (1 ∷ 5 ∷ []) refl;
        rising = λ l. (omega arith, (omega arith, tt));
        figures = inr refl;
        lay? = inr refl;
      }
  judged (link s state) =
      record {
        decided = (refl, is_sound, λ _. (refl, at_station v.n s state 0 1, λ _. tt));
        listed = in_paper_lem (link s state) (1 ∷ 2 ∷ []) refl;
        rising = λ l. (omega arith, (omega arith, tt));
        figures = inr refl;
        lay? = inr refl;
      }
  judged (reach i) =
      record {
        decided = (refl, is_sound, λ _. (refl, below i v.m, λ _. tt));
        listed = in_paper_lem (reach i) (1 ∷ 2 ∷ []) refl;
        rising = λ l. (omega arith, (omega arith, tt));
        figures = inl of_reach;
        lay? = inr refl;
      }
  judged diagnose =
      record {
        decided = (refl, is_sound, λ _. (refl, a_round kind, λ _. tt));
        listed = in_paper_lem diagnose (1 ∷ 5 ∷ []) refl;
        rising = λ l. (omega arith, (omega arith, tt));
        figures = inl of_diagnose;
        lay? = inr refl;
      }
  judged (plan i) =
      record {
        decided = (refl, is_sound, λ _. (refl, below i v.m, λ _. (refl, passes _ (heard-start i), λ _. tt)));
        listed = (omega arith, inl (omega arith), (omega arith, inl (omega arith), (omega arith, inr (i, refl, refl), tt)));
        rising = λ l. (omega arith, (omega arith, (omega arith, tt)));
        figures = inl of_plan;
        lay? = inr refl;
      }

  -- ---- a call has number 0 exactly if it is allowed
  pub number-gets : (c : Call) (k : ℕ) → (number_of v c ≡ k) ↔ Gets (needs v c) k
  unfolding number_of
  number-gets c k = exactly (refusals v c) (needs v c) (judged c).decided k

  pub allowed : (c : Call) → number_of v c ≡ 0 → Allowed v c
  allowed c e = (gets-zero (ListedNumber c) (needs v c) (judged c).listed).0 ((number-gets c 0).0 e)

  pub is_done : (c : Call) → Allowed v c → number_of v c ≡ 0
  is_done c a = (number-gets c 0).1 ((gets-zero (ListedNumber c) (needs v c) (judged c).listed).1 a)

-- ---- soundness is asked once: of a lay never, of any other call first
module _ (v : State) (c : Call) where
  pub lay_number : is_lay c ≡ true → number_of v c ≡ first (tests v c)
  unfolding number_of refusals
  lay_number l = rw l

  pub asked_first : is_lay c ≡ false → number_of v c ≡ first ((not v.is_sound, 1) ∷ tests v c)
  unfolding number_of refusals
  asked_first l = rw l

  pub sound-number : is_lay c ≡ false → v.is_sound ≡ true → number_of v c ≡ first (tests v c)
  sound-number l s = asked_first l ∙ first_fails (not v.is_sound, 1) (tests v c) (ap not s)

  pub unsound_number : is_lay c ≡ false → v.is_sound ≡ false → number_of v c ≡ 1
  unsound_number l s = asked_first l ∙ first_applies (not v.is_sound, 1) (tests v c) (ap not s)

pub numbered : Numbers
unfolding reply_of needs
numbered =
    record {
      number_exactly = λ t c. number-gets (view t) c;
      done_exactly = λ t c. (allowed (view t) c, is_done (view t) c);
      rising = λ v c. (judged v c).rising;
      lay_order = λ v n m value config. refl;
      applies = λ t c h. gets_fails (needs (view t) c) _ h ((number-gets (view t) c _).0 refl);
      lowest = λ t c k l f. gets-lowest (needs (view t) c) 0 _ k ((judged (view t) c).rising l) ((number-gets (view t) c _).0 refl) f;
      found_copies = λ v f. (version_found v f, generation_found v f);
    }
