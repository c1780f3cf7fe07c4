-- Demand 2 holds: what commit needs (Needs.antt), told number by number.
use mathlib.Core.Path.{◌≡◌, refl}
use mathlib.Core.Bool.{true}
use mathlib.Core.List.{[], ◌∷◌}
use mathlib.Core.Logic.{◌↔◌, ◌⊎◌, inl, inr}
use Prim.Native.Nat.{ℕ}
use native.Mathlib.Omega.{arith}
use Rattle.basics.proofs.Tests.{clash, either}
use Rattle.layout.specs.Fields.{Kind, none}
use Rattle.layout.specs.View.{State, view}
use Rattle.rules.specs.Calls.{commit}
use Rattle.rules.specs.Rules.{number_of, spent}
use Rattle.rules.specs.Reply.{reply_of}
use Rattle.rules.specs.Demand2.{Found, Heard, HeardRound, Spent, Written, Commits, Demand2}
use Rattle.rules.specs.Needs.{Gets, needs}
use Rattle.rules.proofs.Quorums.{found_in, is_heard_lem, heard_exactly, is_spent, is_written}
use Rattle.rules.proofs.Judged.{number-gets, allowed, is_done}

module _ (v : State) (is_sound : v.is_sound ≡ true) (is_open : v.round.kind ≡ none → ⊥) where
  abbrev k : Kind
  k = v.round.kind

  abbrev number : ℕ
  number = number_of v commit

  -- what a round has found is one: what holds of it once holds of it always
  same_spent : (f g : Found v) → Spent v f k → Spent v g k
  same_spent f g h = (is_spent v g k).0 ((is_spent v f k).1 h)

  same_written : (f g : Found v) → Written v f k → Written v g k
  same_written f g h = (is_written v g k).0 ((is_written v f k).1 h)

  -- a heard round, and what it has found
  heard-round : (f : Found v) → Heard v f → HeardRound v
  heard-round f h = (f.g, (f.newest_generation, h))

  heard_found : (h : HeardRound v) → Heard v (found_in v h)
  heard_found h = (is_heard_lem v (found_in v h)).0 ((heard_exactly v).1 h)

  -- the number past soundness and the open round
  abbrev Past : ℕ → Type 0
  Past j = Gets ((8, HeardRound v) ∷ (10, (f : Found v) → Spent v f k → ⊥) ∷ (11, (f : Found v) → Written v f k) ∷ []) j

  past : (j : ℕ) → number ≡ j → Past j
  unfolding needs
  past j e = go ((number-gets v commit j).0 e)
    where
      go : Gets (needs v commit) j → Past j
      go (inl p) = absurd (p.0 is_sound)
      go (inr (s, inl p)) = absurd (p.0 is_open)
      go (inr (s, inr (o, p))) = p

  told : (j : ℕ) → Past j → number ≡ j
  unfolding needs
  told j p = (number-gets v commit j).1 (inr (is_sound, inr (is_open, p)))

  -- some found round is spent, where not none is
  some_spent : (f : Found v) → (((g : Found v) → Spent v g k → ⊥) → ⊥) → Spent v f k
  some_spent f h =
      either (spent v k) (λ e. (is_spent v f k).0 e)
      (λ e. absurd (h (λ g s. clash ((is_spent v g k).1 s) e)))

  finished : (number ≡ 0) ↔ ((f : Found v) × Heard v f × (Spent v f k → ⊥) × Written v f k)
  unfolding needs
  finished = (
    λ e. let a = allowed v commit e in
        let h = a.1.1.0 in
        let f = found_in v h in
        (f, heard_found h, a.1.1.1.0 f, a.1.1.1.1.0 f),
    λ c. let f = c.0 in
        is_done v commit (is_sound, (is_open, (heard-round f c.1, (λ g s. c.2 (same_spent g f s), (λ g. same_written f g c.3, tt))))),
  )

  unheard : (number ≡ 8) ↔ (HeardRound v → ⊥)
  unheard = (λ e. go (past 8 e), λ c. told 8 (inl (c, refl)))
    where
      go : Past 8 → HeardRound v → ⊥
      go (inl p) h = p.0 h
      go (inr (q, inl p)) h = let e = p.1 in omega arith
      go (inr (q, inr (r, inl p))) h = let e = p.1 in omega arith
      go (inr (q, inr (r, inr p))) h = let e = p.1 in omega arith

  is_ten : (number ≡ 10) ↔ ((f : Found v) × Heard v f × Spent v f k)
  is_ten = (λ e. go (past 10 e), λ c. told 10 (inr (heard-round c.0 c.1, inl (λ n. n c.0 c.2, refl))))
    where
      go : Past 10 → (f : Found v) × Heard v f × Spent v f k
      go (inl p) = let e = p.1 in absurd (omega arith)
      go (inr (q, inl p)) = let f = found_in v q in (f, heard_found q, some_spent f p.0)
      go (inr (q, inr (r, inl p))) = let e = p.1 in absurd (omega arith)
      go (inr (q, inr (r, inr p))) = let e = p.1 in absurd (omega arith)

  short : (number ≡ 11) ↔ ((f : Found v) × Heard v f × (Spent v f k → ⊥) × (Written v f k → ⊥))
  short = (
    λ e. go (past 11 e),
    λ c. let f = c.0 in told 11 (inr (heard-round f c.1, inr (λ g s. c.2 (same_spent g f s), inl (λ w. c.3 (w f), refl)))),
  )
    where
      go : Past 11 → (f : Found v) × Heard v f × (Spent v f k → ⊥) × (Written v f k → ⊥)
      go (inl p) = let e = p.1 in absurd (omega arith)
      go (inr (q, inl p)) = let e = p.1 in absurd (omega arith)
      go (inr (q, inr (r, inl p))) = let f = found_in v q in (f, heard_found q, r f, λ w. p.0 (λ g. same_written f g w))
      go (inr (q, inr (r, inr p))) = let e = p.1 in absurd (omega arith)

  no_other : (number ≡ 0) ⊎ ((number ≡ 8) ⊎ ((number ≡ 10) ⊎ (number ≡ 11)))
  no_other = go (past number refl)
    where
      go : Past number → (number ≡ 0) ⊎ ((number ≡ 8) ⊎ ((number ≡ 10) ⊎ (number ≡ 11)))
      go (inl p) = inr (inl p.1)
      go (inr (q, inl p)) = inr (inr (inl p.1))
      go (inr (q, inr (r, inl p))) = inr (inr (inr p.1))
      go (inr (q, inr (r, inr p))) = inl p.1

  pub commits : Commits v number
  commits = record { finished = finished; unheard = unheard; spent = is_ten; short = short; no_other = no_other }

pub demand2 : Demand2
unfolding reply_of view needs
demand2 =
    record {
      open_round = λ t. commits (view t);
      no_round_lem = λ t s e. (number-gets (view t) commit 5).1 (inr (s, inl (λ o. o e, refl)));
      unsound = λ t s. (number-gets (view t) commit 1).1 (inl (λ e. clash e s, refl));
    }
