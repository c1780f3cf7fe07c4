-- Spellings of a configuration in calls and in tables.
use mathlib.Core.Path.{◌≡◌, refl, sym, ap, ◌∙◌}
use mathlib.Core.Bool.{true, not, cond}
use mathlib.Core.List.{List, [], ◌∷◌}
use mathlib.Core.Logic.{◌↔◌}
use Prim.Native.Nat.{ℕ}
use lib.Dec.{eqb}
use borrow.Author.Tests.{eqb-true, eq-eqb, ne_eqb}
use Rattle.basics.specs.Bytes.{AreBytes}
use Rattle.basics.proofs.Tests.{clash, either}
use Rattle.quorum.specs.Configurations.{first_read, place_figure, is_place}
use Rattle.quorum.specs.Promise.{SamePasses}
use Rattle.std.specs.Prelude.{Option}
use Rattle.quorum.proofs.Promise.{promise}
use Rattle.form.specs.Form.{standard_form}
use Rattle.form.proofs.Laws.{same_passes_form, spells_itself}
use Rattle.layout.specs.Layout.{table_length}
use Rattle.layout.specs.Fields.{kind_byte, change}
use Rattle.layout.specs.Soundness.{sound}
use Rattle.layout.specs.Updates.{laid, set_round}
use Rattle.layout.specs.View.{Table, view}
use Rattle.layout.proofs.Contents.{contents_back, contents_on}
use Rattle.layout.proofs.Soundness.{is_sound_lem, sound_facts}
use Rattle.layout.proofs.TableFacts.{table_facts}
use Rattle.rules.specs.Calls.{Call, lay, open_change, commit}
use Rattle.rules.specs.Rules.{first, tests, refusals, number_of, no_size, no_item, is_idle}
use Rattle.rules.specs.Figures.{figures_of, one_figure}
use Rattle.rules.specs.After.{done}
use Rattle.rules.specs.Needs.{needs}
use Rattle.rules.specs.Passed.{Passable}
use Rattle.rules.specs.Reply.{answer, reply_of, reply, after}
use Rattle.rules.specs.Lists.{replies, after_all, AllPassable}
use Rattle.rules.specs.Alike.{AlikeBy}
use Rattle.rules.specs.Book.{Book, fed}
use Rattle.rules.specs.Demand3.{OneCopy}
use Rattle.rules.specs.declared.Reply.{Reply}
use Rattle.rules.proofs.Laws.{done_allowed, next-view, bytes_kept}
use Rattle.rules.proofs.Kept.{after-sound, stays-sound}
use Rattle.rules.proofs.Alike.{Agree, reply_alike, number-eq, all_alike}
use Rattle.rules.proofs.Demands.{demand3}
use Rattle.spelling.specs.Spellings.{SameCall, the_same, of_lay, of_change, SameCalls, SameButSpelling, respelled, any_place, but_for_place}
use Rattle.spelling.specs.Spellings.{Leaves, now, given_laid, given_target, ByEither, ends, next}
use Rattle.spelling.specs.Spellings.{but_for_places, SameRepliesButPlace, Spellings}
use Rattle.spelling.proofs.Before.{lay_before, change_before}
use Rattle.spelling.proofs.ButSpelling.{but_back, but_on}
use Rattle.spelling.proofs.InForm.{respelled_in_form, unchanged, all_in_form, laid_in_form, in_form_like}
use Rattle.spelling.proofs.Respelled.{respelled_bytes, respelled_length, respelled_contents, respelled_sound, respelled_passes}

-- ---- spellings in calls
-- two calls that get the same reply and leave the same bytes
abbrev SameEffect : Table → Call → Call → Type 0
SameEffect t c d = (reply t c ≡ reply t d) × (after t c ≡ after t d)

-- they do if they get the same number, have the same figures, and where they are done leave the same bytes
same_effect : (t : Table) (c d : Call) → number_of (view t) c ≡ number_of (view t) d → figures_of (view t) c ≡ figures_of (view t) d
    → ((reply t c).number ≡ 0 → done t (view t) c ≡ done t (view t) d) → SameEffect t c d
unfolding reply_of after
same_effect t c d e f g = (
  λ j. answer (e j) (f j),
  either (eqb (number_of (view t) c) 0)
      (λ z. rw (← e, z) (g (eqb-true (number_of (view t) c) 0 z)))
      (λ z. rw (← e, z)),
)

same_call : (t : Table) (c d : Call) → SameCall (view t).n c d → SameEffect t c d
unfolding number_of refusals tests figures_of done needs
same_call t c d the_same = (refl, refl)
same_call t _ _ (of_lay {k = n} {m = m} {value = value} {config = config} {other = other} one) =
    same_effect t (lay n m value config) (lay n m value other)
    (λ j. first ((no_size n m, 2) ∷ (not ((view t).fits n m), 1) ∷ (not (one.judged j), 3) ∷ [])) refl
    (λ e. ap (laid n m value) (one.form ((promise.valid_exactly n config).1 (done_allowed t (lay n m value config) e).1.1.0)))
same_call t _ _ (of_change {i = i} {target = target} {other = other} one) =
    same_effect t (open_change i target) (open_change i other)
    (λ j. first ((not (view t).is_sound, 1) ∷ (no_item (view t) i, 2) ∷ (not (one.judged j), 3) ∷ (not (is_idle (view t)), 4) ∷ [])) refl
    (λ e. ap (set_round t (kind_byte change) i 0)
    (one.form ((promise.valid_exactly (view t).n target).1 (done_allowed t (open_change i target) e).1.1.0)))

one_form : (t : Table) (calls others : List Call) → SameCalls t calls others → (replies t calls ≡ replies t others) × (after_all t calls ≡ after_all t others)
unfolding replies after_all
one_form t [] [] r = (refl, refl)
one_form t [] (d ∷ others) r = absurd r
one_form t (c ∷ calls) [] r = absurd r
one_form t (c ∷ calls) (d ∷ others) r =
    let same = same_call t c d r.0 in
    let rest = one_form (after t c) calls others r.1 in
    (λ j. same.0 j ∷ (rest.0 ∙ ap (λ u. replies u others) same.1) j, rest.1 ∙ ap (λ u. after_all u others) same.1)

-- ---- spellings in tables
-- what is left of a read place is whether there is one, and that is whether the set passes
any_place_lem : (p : Option ℕ) → any_place (place_figure p) ≡ cond (is_place p) 1 0
any_place_lem p =
    either (is_place p)
    (λ e. rw (e, ne_eqb (place_figure p) 0 (λ z. clash e ((promise.figure_none p).0 z))))
    (λ e. rw (e, eq-eqb (place_figure p) 0 ((promise.figure_none p).1 e)))

same_place : (c d : List ℕ) → SamePasses c d → (set : ℕ) → any_place (place_figure (first_read c set)) ≡ any_place (place_figure (first_read d set))
same_place c d e set = any_place_lem (first_read c set) ∙ ap (λ b. cond b 1 0) (e.reads set) ∙ sym (any_place_lem (first_read d set))

spelled_agree : Agree SamePasses but_for_place
spelled_agree =
    record {
      itself = λ c. spells_itself refl;
      passes = λ c d e. e;
      polled = λ c d e set s j. answer 0 (one_figure (same_place c d e set j));
      diagnosed = λ c d e set number station j. answer 0 (record { first = number; second = station; third = same_place c d e set j });
    }

-- tables that differ in spelling alone look alike but for configurations
alike : (t u : Table) → SameButSpelling t u → AlikeBy SamePasses (view t) (view u)
unfolding view
alike t u h =
    let same = h.contents in
    let st = h.are_sound.0 in
    let su = h.are_sound.1 in
    record {
      is_sound = st ∙ sym su;
      fits = λ n m. ap (λ l. eqb l (table_length n m)) ((sound_facts t st).size ∙ rw (same.n, same.m) (sym (sound_facts u su).size));
      contents = same;
    }

-- bytes and soundness along a list
all_bytes : (t : Table) (calls : List Call) → AreBytes t → AllPassable calls → AreBytes (after_all t calls)
unfolding after_all
all_bytes t [] b p = b
all_bytes t (c ∷ calls) b p = all_bytes (after t c) calls (bytes_kept t c b p.0) p.1

all_sound : (t : Table) (calls : List Call) → AreBytes t → AllPassable calls → sound t ≡ true → sound (after_all t calls) ≡ true
unfolding after_all
all_sound t [] b p s = s
all_sound t (c ∷ calls) b p s = all_sound (after t c) calls (bytes_kept t c b p.0) p.1 (stays-sound t c b p.0 s)

module _ (t u : Table) (h : SameButSpelling t u) where
  stays_same : (calls : List Call) → AllPassable calls → SameButSpelling (after_all t calls) (after_all u calls)
  stays_same calls p =
      let b = h.bytes in
      let s = h.are_sound in
      record {
        bytes = (all_bytes t calls b.0 p, all_bytes u calls b.1 p);
        are_sound = (all_sound t calls b.0 p s.0, all_sound u calls b.1 p s.1);
        contents = (all_alike spelled_agree t u calls b.0 b.1 p (alike t u h)).contents;
      }

  -- one call
  same_after : (c : Call) → Passable c → SameButSpelling (after t c) (after u c)
  unfolding after_all
  same_after c p = stays_same (c ∷ []) (p, tt)

  same_replies_but_place : SameRepliesButPlace t u
  same_replies_but_place calls p c =
      reply_alike spelled_agree _ _ (alike (after_all t calls) (after_all u calls) (stays_same calls p)) (λ s. (is_sound_lem (after_all t calls) s).item) c

-- ---- tables respelled
same_respelled : (t u : Table) → SameButSpelling t u → respelled t ≡ respelled u
same_respelled t u h =
    let st = h.are_sound.0 in
    let su = h.are_sound.1 in
    table_facts.same_bytes (respelled t) (respelled u) (respelled_bytes t h.bytes.0) (respelled_bytes u h.bytes.1)
    (respelled_sound t st) (respelled_sound u su)
    (contents_on (λ c d e form own. form ∙ ap (λ n. standard_form n d) h.contents.n ∙ sym own)
    (contents_on (λ c d e form passes. form ∙ same_passes_form (view t).n d e passes)
    (contents_back (λ c d form. form) (respelled_contents t st)) h.contents) (respelled_contents u su))

but_respelled : (t : Table) → AreBytes t → sound t ≡ true → SameButSpelling t (respelled t)
but_respelled t b s = record { bytes = (b, respelled_bytes t b); are_sound = (s, respelled_sound t s); contents = respelled_passes t s }

but_itself : (t : Table) → AreBytes t → sound t ≡ true → SameButSpelling t t
but_itself t b s = but_on (but_respelled t b s) (but_back (but_respelled t b s))

one_respelling : (t u : Table) → AreBytes t → AreBytes u → sound t ≡ true → sound u ≡ true → SameButSpelling t u ↔ (respelled t ≡ respelled u)
one_respelling t u bt bu st su = (same_respelled t u, λ e. but_on (rw e at (but_respelled t bt st)) (but_back (but_respelled u bu su)))

respelled_after : (t : Table) (calls : List Call) → AreBytes t → sound t ≡ true → AllPassable calls
    → after_all (respelled t) calls ≡ respelled (after_all t calls)
respelled_after t calls b s p =
    let h = stays_same t (respelled t) (but_respelled t b s) calls p in
    sym (unchanged (after_all (respelled t) calls) h.bytes.1 h.are_sound.1
    (all_in_form (respelled t) calls (respelled_bytes t b) p (respelled_in_form t s)))
    ∙ sym (same_respelled (after_all t calls) (after_all (respelled t) calls) h)

always_in_form : (t : Table) (n m value : ℕ) (config : List ℕ) (calls : List Call) → AreBytes t → AllPassable (lay n m value config ∷ calls)
    → (reply t (lay n m value config)).number ≡ 0
    → respelled (after_all t (lay n m value config ∷ calls)) ≡ after_all t (lay n m value config ∷ calls)
unfolding after_all
always_in_form t n m value config calls b p e =
    let c = lay n m value config in
    let u = after t c in
    let bu = bytes_kept t c b p.0 in
    unchanged (after_all u calls) (all_bytes u calls bu p.1) (all_sound u calls bu p.1 (after-sound t c b p.0 e))
    (all_in_form u calls bu p.1 (in_form_like _ _ (next-view t c e b p.0) (laid_in_form (view t) n m value config (done_allowed t c e))))

-- ---- the store before this request
-- a call by either store
step_before : (t u : Table) (c : Call) (w : Table) → SameButSpelling t u → Passable c → Leaves t c w → SameButSpelling w (after u c)
step_before t u c _ h p now = same_after t u h c p
step_before t u _ _ h p (given_laid {n = n} {m = m} {value = value} {config = config} e) =
    but_on (lay_before t n m value config h.bytes.0 p e) (same_after t u h (lay n m value config) p)
step_before t u _ _ h p (given_target {i = i} {target = target} e) =
    but_on (change_before t i target h.bytes.0 p e) (same_after t u h (open_change i target) p)

as_before : (t u w : Table) (calls : List Call) (rest : List Reply) → SameButSpelling t u → AllPassable calls → ByEither t calls rest w
    → (but_for_places calls rest ≡ but_for_places calls (replies u calls)) × SameButSpelling w (after_all u calls)
unfolding replies after_all but_for_places
as_before t u _ [] _ h p ends = (refl, h)
as_before t u w (c ∷ calls) _ h p (next {u = v} {rest = rest} one run) =
    let on = as_before v (after u c) w calls rest (step_before t u c v h p.0 one) p.1 run in
    (λ j. same_replies_but_place t u h [] tt c j ∷ on.0 j, on.1)

-- the book sees nothing of a read place: it is fed numbers, and only a commit's figures are held to it
one_copy_like : (b : Book) (t u w : Table) (calls : List Call) (rest : List Reply) → SameButSpelling t u → AllPassable calls → ByEither t calls rest w
    → OneCopy b calls (replies u calls) → OneCopy b calls rest
unfolding replies after_all
one_copy_like b t u _ [] _ h p ends one = tt
one_copy_like b t u w (c ∷ calls) _ h p (next {u = v} {rest = rest} leaves run) one = (
  λ e. rw (commit_same e) (one.0 e),
  one_copy_like (fed b c (reply t c).number) v (after u c) w calls rest (step_before t u c v h p.0 leaves) p.1 run (rw number one.1),
)
  where
    number : (reply t c).number ≡ (reply u c).number
    number = number-eq spelled_agree t u c h.bytes.0 h.bytes.1 p.0 (alike t u h)

    commit_same : c ≡ commit → reply t c ≡ reply u c
    commit_same e = rw e (same_replies_but_place t u h [] tt commit)

-- a call that is done, on any table, by either store
done_before : (t : Table) (c : Call) (u : Table) → AreBytes t → Passable c → (reply t c).number ≡ 0 → Leaves t c u → SameButSpelling u (after t c)
done_before t c _ b p e now = but_itself (after t c) (bytes_kept t c b p) (after-sound t c b p e)
done_before t _ _ b p e (given_laid {n = n} {m = m} {value = value} {config = config} _) = lay_before t n m value config b p e
done_before t _ _ b p e (given_target {i = i} {target = target} _) = change_before t i target b p e

one_copy_as_before : (t w : Table) (b : Book) (n m value : ℕ) (config : List ℕ) (calls : List Call) (rest : List Reply)
    → AreBytes t → AllPassable (lay n m value config ∷ calls) → (reply t (lay n m value config)).number ≡ 0
    → ByEither t (lay n m value config ∷ calls) rest w → OneCopy b (lay n m value config ∷ calls) rest
unfolding replies
one_copy_as_before t w b n m value config calls _ bytes p e (next {u = u} {rest = rest} leaves run) =
    let one = demand3.one_copy t b n m value config calls bytes p e in
    let c = lay n m value config in
    (one.0, one_copy_like _ u (after t c) w calls rest (done_before t c u bytes p.0 e leaves) p.1 run one.1)

pub spellings : Spellings
spellings =
    record {
      one_form = one_form;
      always_in_form = always_in_form;
      same_replies_but_place = same_replies_but_place;
      stays_same = λ t u calls h p. stays_same t u h calls p;
      one_respelling = one_respelling;
      respelled_contents = respelled_contents;
      respelled_sound = respelled_sound;
      respelled_length = respelled_length;
      respelled_bytes = respelled_bytes;
      no_harm = λ t b s. same_replies_but_place (respelled t) t (but_back (but_respelled t b s));
      respelled_after = respelled_after;
      lay_before = lay_before;
      as_before = as_before;
      one_copy_as_before = one_copy_as_before;
    }
