-- Demand 3, by induction on the list: the table follows the book.
use mathlib.Core.Path.{◌≡◌, refl, sym, ap, ◌∙◌}
use mathlib.Core.Bool.{true}
use mathlib.Core.List.{List, [], ◌∷◌}
use Prim.Native.Nat.{ℕ, zero, suc}
use native.Mathlib.Omega.{arith}
use Rattle.basics.specs.Bytes.{AreBytes}
use Rattle.quorum.proofs.Promise.{promise}
use Rattle.form.proofs.Laws.{form_valid}
use Rattle.layout.specs.Fields.{Kind}
use Rattle.layout.specs.Fields.{none as no_round, read as read_round, write as write_round, change as change_round}
use Rattle.layout.specs.Soundness.{sound}
use Rattle.layout.specs.View.{Table, view}
use Rattle.layout.proofs.Soundness.{is_sound_lem}
use Rattle.rules.specs.Calls.{Call, lay, commit}
use Rattle.rules.specs.Passed.{Passable}
use Rattle.rules.specs.Figures.{figures_of}
use Rattle.rules.specs.Reply.{reply, after}
use Rattle.rules.specs.Lists.{replies, after_all, AllPassable}
use Rattle.rules.specs.Book.{Book, fed, fed_all, step}
use Rattle.rules.specs.Needs.{needs}
use Rattle.rules.specs.Demand3.{NotedItem, of_read, of_write, of_change, Agrees, OneCopy, Demand3}
use Rattle.rules.proofs.Demand1.{refusal_changes_nothing, reply_figures}
use Rattle.rules.proofs.Laws.{commit_heard, commit_written, done_allowed, done_law, next-view, bytes_kept}
use Rattle.rules.proofs.Kept.{after-sound, stays-sound}
use Rattle.rules.proofs.Book.{Follows, noted_of, follows_like, keep_laid, entry-after, figures_after}

noted_item : (k : Kind) (i x : ℕ) → (k ≡ no_round → ⊥) → NotedItem (noted_of k i x) i
noted_item no_round i x e = absurd (e refl)
noted_item read_round i x e = of_read
noted_item write_round i x e = of_write
noted_item change_round i x e = of_change

-- a commit that replies 0 agrees with the book
pub agrees : (t : Table) (b : Book) → Follows (view t) b → (reply t commit).number ≡ 0 → Agrees b (fed b commit (reply t commit).number) (reply t commit)
unfolding fed figures_of needs
agrees t b inv e =
    let v = view t in
    let a = done_allowed t commit e in
    let f = reply_figures t commit e in
    let g = figures_after v b inv (is_sound_lem t a.0) a.1.0 (commit_heard t a) (commit_written t a) in
    let x = entry-after v b inv (is_sound_lem t a.0) a.1.0 (commit_heard t a) (commit_written t a) in
    rw e (record {
      item = v.round.item;
      noted = rw inv.noted (noted_item v.round.kind v.round.item v.round.value a.1.0);
      gives = record {
        value = f.0 ∙ g.0 ∙ ap (λ y. y.value) (sym x);
        writes = f.1 ∙ g.1 ∙ ap (λ y. y.writes) (sym x);
        changes = f.2 ∙ g.2 ∙ ap (λ y. y.changes) (sym x);
      };
    })

-- every call keeps it, a refused one too
pub goes_on : (t : Table) (b : Book) (c : Call) → AreBytes t → Passable c → Follows (view t) b → Follows (view (after t c)) (fed b c (reply t c).number)
unfolding fed
goes_on t b c h p inv = go (reply t c).number refl
  where
    go : (k : ℕ) → (reply t c).number ≡ k → Follows (view (after t c)) (fed b c (reply t c).number)
    go zero e = rw e (follows_like _ _ (step b c) (next-view t c e h p) ((done_law t c e).follows b inv))
    go (suc k) e = rw (refusal_changes_nothing t c (λ z. let q : suc k ≡ 0 = sym e ∙ z in omega arith), e) inv

-- a lay that replies 0 begins it, whatever the book held
pub begins : (t : Table) (b : Book) (n m value : ℕ) (config : List ℕ) → AreBytes t → Passable (lay n m value config)
    → (reply t (lay n m value config)).number ≡ 0 → Follows (view (after t (lay n m value config))) (step b (lay n m value config))
unfolding needs
begins t b n m value config h p e =
    let c = lay n m value config in
    let a = done_allowed t c e in
    follows_like _ _ (step b c) (next-view t c e h p) (keep_laid (view t) b n m value config
    (form_valid n config ((promise.valid_exactly n config).1 a.1.1.0)) a.0.3)

-- what holds of every sound table that follows the book holds after every list of demand 3
follows_all : (P : Table → Book → Type 0) → ((t : Table) (b : Book) → AreBytes t → sound t ≡ true → Follows (view t) b → P t b)
    → (t : Table) (b : Book) (calls : List Call) → AreBytes t → AllPassable calls → sound t ≡ true → Follows (view t) b
    → P (after_all t calls) (fed_all b calls (replies t calls))
unfolding after_all replies
follows_all P each t b [] h p s inv = each t b h s inv
follows_all P each t b (c ∷ calls) h p s inv =
    follows_all P each (after t c) (fed b c (reply t c).number) calls (bytes_kept t c h p.0) p.1 (stays-sound t c h p.0 s)
    (goes_on t b c h p.0 inv)

pub after_lists : (P : Table → Book → Type 0) → ((t : Table) (b : Book) → AreBytes t → sound t ≡ true → Follows (view t) b → P t b)
    → (t : Table) (b : Book) (n m value : ℕ) (config : List ℕ) (calls : List Call)
    → AreBytes t → AllPassable (lay n m value config ∷ calls) → (reply t (lay n m value config)).number ≡ 0
    → P (after_all t (lay n m value config ∷ calls)) (fed_all b (lay n m value config ∷ calls) (replies t (lay n m value config ∷ calls)))
unfolding after_all replies fed
after_lists P each t b n m value config calls h p e =
    let c = lay n m value config in
    follows_all P each (after t c) (fed b c (reply t c).number) calls (bytes_kept t c h p.0) p.1 (after-sound t c h p.0 e)
    (rw e (begins t b n m value config h p.0 e))

one_copy : (t : Table) (b : Book) (calls : List Call) → AreBytes t → AllPassable calls → Follows (view t) b → OneCopy b calls (replies t calls)
unfolding replies
one_copy t b [] h p inv = tt
one_copy t b (c ∷ calls) h p inv = (
  λ q. rw q (agrees t b inv),
  one_copy (after t c) (fed b c (reply t c).number) calls (bytes_kept t c h p.0) p.1 (goes_on t b c h p.0 inv),
)

pub demand3 : Demand3
unfolding fed replies
demand3 =
    record {
      one_copy = λ t b n m value config calls h p e. (
        λ q. let z : ◌≡◌ {A = ℕ} 0 1 = cc in absurd (omega arith),
        one_copy (after t (lay n m value config)) (fed b (lay n m value config) (reply t (lay n m value config)).number) calls
            (bytes_kept t (lay n m value config) h p.0) p.1 (rw e (begins t b n m value config h p.0 e)),
      );
    }
