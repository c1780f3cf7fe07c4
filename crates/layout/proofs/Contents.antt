-- Contents that are related: the other way round, one after the other, by another relation, and by equality.
use mathlib.Core.Path.{◌≡◌, sym, ap, ◌∙◌}
use mathlib.Core.List.{List}
use Prim.Native.Nat.{ℕ, ◌<◌}
use Rattle.layout.specs.View.{State, ContentsBy, SameContents}

pub contents_back : {R S : List ℕ → List ℕ → Type 0} {v w : State} → ((c d : List ℕ) → R c d → S d c) → ContentsBy R v w → ContentsBy S w v
contents_back back a =
    let r = a.round in
    record {
      n = sym a.n;
      m = sym a.m;
      off = sym a.off;
      round = record {
        kind = sym r.kind;
        item = sym r.item;
        polled = sym r.polled;
        data_puts = sym r.data_puts;
        config_puts = sym r.config_puts;
        value = sym r.value;
        target = back _ _ r.target;
      };
      copies = λ i s p q. let c = a.copies i s (rw a.m at p) (rw a.n at q) in
          record { version = sym c.version; value = sym c.value; generation = sym c.generation; config = back _ _ c.config };
    }

pub contents_on : {R S T : List ℕ → List ℕ → Type 0} {v w x : State} → ((c d e : List ℕ) → R c d → S d e → T c e)
    → ContentsBy R v w → ContentsBy S w x → ContentsBy T v x
contents_on on a b =
    let r = a.round in
    let q = b.round in
    record {
      n = a.n ∙ b.n;
      m = a.m ∙ b.m;
      off = a.off ∙ b.off;
      round = record {
        kind = r.kind ∙ q.kind;
        item = r.item ∙ q.item;
        polled = r.polled ∙ q.polled;
        data_puts = r.data_puts ∙ q.data_puts;
        config_puts = r.config_puts ∙ q.config_puts;
        value = r.value ∙ q.value;
        target = on _ _ _ r.target q.target;
      };
      copies = λ i s p h. let c = a.copies i s (rw b.m p) (rw b.n h) in
          let d = b.copies i s p h in
          record {
            version = c.version ∙ d.version;
            value = c.value ∙ d.value;
            generation = c.generation ∙ d.generation;
            config = on _ _ _ c.config d.config;
          };
    }

-- P holds of the target and of every copy's configuration
pub record EachConfig (P : List ℕ → Type 0) (v : State) : Type 0 where
  pub target : P v.round.target
  pub copies : (i s : ℕ) → i < v.m → s < v.n → P (v.copies i s).config

-- another relation, where it follows of configurations with P
pub contents_with : {P : List ℕ → Type 0} {R S : List ℕ → List ℕ → Type 0} {v w : State} → ((c d : List ℕ) → P c → R c d → S c d)
    → EachConfig P v → ContentsBy R v w → ContentsBy S v w
contents_with follows each a =
    let r = a.round in
    record {
      n = a.n;
      m = a.m;
      off = a.off;
      round = record {
        kind = r.kind;
        item = r.item;
        polled = r.polled;
        data_puts = r.data_puts;
        config_puts = r.config_puts;
        value = r.value;
        target = follows _ _ each.target r.target;
      };
      copies = λ i s p q. let c = a.copies i s p q in
          record {
            version = c.version;
            value = c.value;
            generation = c.generation;
            config = follows _ _ (each.copies i s (rw a.m p) (rw a.n q)) c.config;
          };
    }

-- ---- the same contents, by whole rounds and copies
pub record SameWhole (v w : State) : Type 0 where
  pub n : v.n ≡ w.n
  pub m : v.m ≡ w.m
  pub off : v.off ≡ w.off
  pub round : v.round ≡ w.round
  pub copies : (i s : ℕ) → i < w.m → s < w.n → v.copies i s ≡ w.copies i s

pub by_whole : {v w : State} → SameContents v w → SameWhole v w
by_whole a =
    let r = a.round in
    record {
      n = a.n;
      m = a.m;
      off = a.off;
      round = λ j. record {
        kind = r.kind j;
        item = r.item j;
        polled = r.polled j;
        data_puts = r.data_puts j;
        config_puts = r.config_puts j;
        value = r.value j;
        target = r.target j;
      };
      copies = λ i s p q j. let c = a.copies i s p q in
          record { version = c.version j; value = c.value j; generation = c.generation j; config = c.config j };
    }

pub by_fields : {v w : State} → SameWhole v w → SameContents v w
by_fields a =
    let r = a.round in
    record {
      n = a.n;
      m = a.m;
      off = a.off;
      round = record {
        kind = ap (λ x. x.kind) r;
        item = ap (λ x. x.item) r;
        polled = ap (λ x. x.polled) r;
        data_puts = ap (λ x. x.data_puts) r;
        config_puts = ap (λ x. x.config_puts) r;
        value = ap (λ x. x.value) r;
        target = ap (λ x. x.target) r;
      };
      copies = λ i s p q. let c = a.copies i s p q in
          record {
            version = ap (λ x. x.version) c;
            value = ap (λ x. x.value) c;
            generation = ap (λ x. x.generation) c;
            config = ap (λ x. x.config) c;
          };
    }
