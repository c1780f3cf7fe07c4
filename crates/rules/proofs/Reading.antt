-- Over every list of demand 3, a read that polls stations on the bus that are heard is done, and gives what the book has.
use mathlib.Core.Path.{◌≡◌, ◌∙◌}
use mathlib.Core.Bool.{true}
use mathlib.Core.List.{List, ◌∷◌}
use Prim.Native.Nat.{ℕ, ◌<◌}
use Rattle.basics.specs.Bytes.{AreBytes}
use Rattle.plan.specs.Starts.{joined}
use Rattle.layout.specs.Fields.{none}
use Rattle.layout.specs.Newest.{hears}
use Rattle.layout.specs.Soundness.{sound}
use Rattle.layout.specs.View.{Table, view}
use Rattle.layout.proofs.Soundness.{is_sound_lem}
use Rattle.layout.proofs.Newer.{hears_same}
use Rattle.rules.specs.Calls.{open_read, commit, abandon}
use Rattle.rules.specs.Reply.{reply, after}
use Rattle.rules.specs.Lists.{after_all}
use Rattle.rules.specs.Book.{Book, entry, step, fed}
use Rattle.rules.specs.Needs.{needs}
use Rattle.rules.specs.WholeRounds.{polls, DoneGiving}
use Rattle.rules.proofs.Judged.{numbered}
use Rattle.rules.proofs.Copies.{heard_current}
use Rattle.rules.proofs.Book.{Follows}
use Rattle.rules.proofs.Laws.{done-step, bytes_kept}
use Rattle.rules.proofs.Kept.{after-sound}
use Rattle.rules.proofs.Demand3.{goes_on}
use Rattle.rules.proofs.Asking.{ThoseOn}
use Rattle.rules.proofs.WholeRounds.{read_shows, read_begun, read_ends}

-- no round is open
pub gives_entry : (t : Table) (b : Book) → AreBytes t → sound t ≡ true → Follows (view t) b → (i : ℕ) → i < (view t).m
    → (order : List ℕ) → ThoseOn (view t) order → hears ((view t).copies i) (joined 0 order) (view t).n ≡ true → (view t).round.kind ≡ none
    → DoneGiving (entry b.items i) (reply (after_all t (open_read i ∷ polls order)) commit)
unfolding needs after_all view
gives_entry t b bytes s inv i item order on h idle =
    let v = view t in
    let opens = (numbered.done_exactly t (open_read i)).1 (s, (item, (idle, tt))) in
    let number = (read_ends t bytes i order on opens {H = Unit {0}} (λ _. tt, λ _. h)).finished.1 (tt, λ x. x, tt) in
    let shows = read_shows t bytes s i item order on (after t (open_read i)) (read_begun t bytes i opens).asking number in
    let x = heard_current v.n (v.copies i) _ _ _ (joined 0 order) (inv.kept i item) (λ k l. (is_sound_lem t s).configs i k item l) h in
    (number, record { value = shows.0 ∙ x.value; writes = shows.1 ∙ x.version; changes = shows.2 ∙ x.generation })

-- one is open, and abandoned for it
pub gives_after_abandon : (t : Table) (b : Book) → AreBytes t → sound t ≡ true → Follows (view t) b → (i : ℕ) → i < (view t).m
    → (order : List ℕ) → ThoseOn (view t) order → hears ((view t).copies i) (joined 0 order) (view t).n ≡ true → ((view t).round.kind ≡ none → ⊥)
    → DoneGiving (entry b.items i) (reply (after_all t (abandon ∷ open_read i ∷ polls order)) commit)
unfolding needs after_all fed view
gives_after_abandon t b bytes s inv i item order on h busy =
    let e = (numbered.done_exactly t abandon).1 (s, (busy, tt)) in
    let u = after t abandon in
    let d = done-step t abandon e bytes tt in
    let same = d.copies in
    let follows : Follows (view u) (step b abandon) = rw e at (goes_on t b abandon bytes tt inv) in
    let heard : hears ((view u).copies i) (joined 0 order) (view u).n ≡ true = rw same.n
    (hears_same ((view u).copies i) ((view t).copies i) (joined 0 order) (view t).n (λ k l. same.copies i k item l) ∙ h) in
    gives_entry u (step b abandon) (bytes_kept t abandon bytes tt) (after-sound t abandon bytes tt e) follows i (rw same.m item) order
    (rw (same.n, d.off) on) heard d.round.kind
