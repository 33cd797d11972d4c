-- A seat that goes from channel to channel.
use Rattle.std.proofs.Common.{◌≡◌, ◌⊎◌, ⊎_elim, ℕ, ◌+◌, ◌-◌, ◌*◌, ◌^◌, ◌<◌, ◌≤◌, Bool, true, List, [], ◌∷◌, ◌++◌, map, length, length-append, Ok, Err, true≢false, refl, sym, ap, subst, ◌∙◌, arith}
use Rattle.std.specs.Prelude.{MatchResult, IfOk}
use Rattle.std.specs.Result.{IsErr}
use Rattle.std.specs.declared.result.Result.{Result}
use Rattle.std.proofs.lemmas.List.{map-append}
use Rattle.turn_facts.specs.Counts.{Among}
use Rattle.turn_table.specs.Seats.{SeatView}
use Rattle.hybrid_time.specs.declared.levels.Level.{Level}
use Rattle.hybrid_time.specs.declared.levels.Level.TheVariants.{Strong, Bounded, Session, Eventually}
use Rattle.hybrid_time.specs.declared.times.Timestamp.{Timestamp}
use Rattle.hybrid_time.specs.Levels.{guarantee_of}
use Rattle.journal_model.specs.declared.notes.Note.{Note}
use Rattle.channel_view.specs.Views.{ChannelView}
use Rattle.seat_walks.specs.Walks.{Turned, Step, Took, Draw}
use Rattle.seat_walks.proofs.Walking.{walks_append}
use Rattle.shard_core.specs.Shards.{ChannelBase}
use Rattle.shard_core.specs.declared.replies.Looked.{Looked}
use Rattle.shard_core.specs.declared.replies.Looked.TheVariants as looks
use Rattle.call_model.specs.Turns.{by_of, time_of, Looks}
use Rattle.call_model.specs.Calls.{AreLooks, LooksAt, tick_left}
use Rattle.call_model.specs.Walks.{Did}
use Rattle.shard_calls.specs.Fronts.{FrontView, base_at, Spends}
use Rattle.shard_calls.specs.Calls.{BreaksOff, Gives, IsViewAt}
use Rattle.proxy_search.specs.Rounds.{AreViewsAt, ServesFirst, EndsAt}

pub if_err : {T E : Type 0} (result : Result T E) (P : T → Type 0) → IsErr result → IfOk result P
if_err (Ok x) P h = absurd (true≢false (sym h))
if_err (Err e) P h = tt

pub spends_more : (a b c : ℕ) (s m e : SeatView Note ChannelBase) → Spends a s m → Spends b m e → a + b ≤ c → Spends c s e
spends_more a b c s m e p q fits =
    let one : s.allowance ≤ m.allowance + a = p.allowance in
    let two : m.allowance ≤ e.allowance + b = q.allowance in record {
      table = q.table ∙ p.table;
      turns = q.turns ∙ p.turns;
      number = q.number ∙ p.number;
      joined = q.joined ∙ p.joined;
      allowance = omega arith;
      share = q.share ∙ p.share;
      drawn = λ x h. q.drawn x (p.drawn x h);
    }

-- ---- the guarantee is below the number that was drawn

drops : (a b : ℕ) → a - b ≤ a
drops a b = omega arith

pub guarantee_below : (level : Level) (now mine : ℕ) → mine ≤ now → guarantee_of level now mine ≤ now
guarantee_below Strong now mine h = let z : now ≤ now = omega arith in z
guarantee_below (Bounded delta_ms) now mine h = drops now (delta_ms * 2 ^ 18)
guarantee_below Session now mine h = h
guarantee_below Eventually now mine h = let z : 0 ≤ now = omega arith in z

pub mine_below : (s m : SeatView Note ChannelBase) (first now mine : ℕ) → Did s (Draw now ∷ []) m → s.table.first ≡ first → (mine < first) ⊎ Among mine s.drawn → mine ≤ now
mine_below s m first now mine d same known =
    let above = d.0.1 in
    let least : s.table.first ≤ now = above.first in
    ⊎_elim (λ (h : mine < first). let z : mine ≤ now = omega arith in z) (λ (a : Among mine s.drawn). let l : mine < now = above.drawn mine a in let z : mine ≤ now = omega arith in z) known

-- ---- looks, one after another

module _ (by line guarantee : ℕ) (wait : Bool) where
  looks_snoc : (k : ℕ) (turns : List (Turned Note)) (t : Turned Note) → AreLooks by line guarantee wait k turns → LooksAt by line guarantee wait (k + length turns) t → guarantee ≤ tick_left t → AreLooks by line guarantee wait k (turns ++ t ∷ [])
  looks_snoc k [] t a l r = (subst (λ (n : ℕ). LooksAt by line guarantee wait n t) (let e : k + 0 ≡ k = omega arith in e) l, r, tt)
  looks_snoc k (s ∷ turns) t a l r = (a.0, a.1, looks_snoc (k + 1) turns t a.2 (subst (λ (n : ℕ). LooksAt by line guarantee wait n t) (let e : k + length (s ∷ turns) ≡ (k + 1) + length turns = omega arith in e) l) r)

module _ (front : FrontView) where
  views_snoc : (k : ℕ) (turns : List (Turned Note)) (views : List ChannelView) (t : Turned Note) (view : ChannelView) → AreViewsAt front k turns views → IsViewAt (base_at front.collection front.floor (k + length turns)) (t.before ++ t.notes) view
      → AreViewsAt front k (turns ++ t ∷ []) (views ++ view ∷ [])
  views_snoc k [] [] t view a i = (subst (λ (n : ℕ). IsViewAt (base_at front.collection front.floor n) (t.before ++ t.notes) view) (let e : k + 0 ≡ k = omega arith in e) i, tt)
  views_snoc k [] (v ∷ views) t view a i = absurd a
  views_snoc k (s ∷ turns) [] t view a i = absurd a
  views_snoc k (s ∷ turns) (v ∷ views) t view a i = (a.0, views_snoc (k + 1) turns views t view a.1 (subst (λ (n : ℕ). IsViewAt (base_at front.collection front.floor n) (t.before ++ t.notes) view) (let e : k + length (s ∷ turns) ≡ (k + 1) + length turns = omega arith in e) i))

did_more : (s m e : SeatView Note ChannelBase) (turns : List (Turned Note)) (t : Turned Note) → Did s (map Took turns) m → Did m (Took t ∷ []) e → Did s (map Took (turns ++ t ∷ [])) e
did_more s m e turns t d d' = subst (λ (l : List (Step Note)). Did s l e) (sym (map-append Took turns (t ∷ []))) (walks_append by_of time_of s m e (map Took turns) (Took t ∷ []) d d')

module _ (front : FrontView) (line guarantee : ℕ) (wait : Bool) where
  -- the seat s has become m by looks at the first channels, which were all served
  abbrev pub HasLooked : SeatView Note ChannelBase → SeatView Note ChannelBase → ℕ → List ChannelView → Type 0
  HasLooked s m channel views = (turns : List (Turned Note)) × Did s (map Took turns) m × ServesFirst front s.number line guarantee wait channel turns views

  -- one look
  abbrev pub LooksOnce : {E : Type 0} → SeatView Note ChannelBase → SeatView Note ChannelBase → ℕ → Result Looked E → Type 0
  LooksOnce m e channel result = (t : Turned Note) × Did m (Took t ∷ []) e × (t.slot ≡ channel)
      × MatchResult result (λ looked. Looks m.number line guarantee wait t.before t.notes t.drawn × Gives (base_at front.collection front.floor channel) guarantee wait (t.before ++ t.notes) looked) (λ _. BreaksOff m.number line guarantee wait t.before t.notes t.drawn)

  module _ (s m e : SeatView Note ChannelBase) (channel : ℕ) (views : List ChannelView) (named : m.number ≡ s.number) (so_far : HasLooked s m channel views) where
    pub steps_on : {E : Type 0} (result : Result Looked E) → LooksOnce m e channel result → (turns : List (Turned Note)) × Did s (map Took turns) e
    steps_on result l = (so_far.0 ++ l.0 ∷ [], did_more s m e so_far.0 l.0 so_far.1 l.1)

    pub served_next : (E : Type 0) (view : ChannelView) → LooksOnce {E = E} m e channel (Ok (looks.Served view)) → HasLooked s e (channel + 1) (views ++ view ∷ [])
    served_next E view l =
        let turns : List (Turned Note) = so_far.0 in
        let t : Turned Note = l.0 in
        let w : ServesFirst front s.number line guarantee wait channel turns views = so_far.2 in
        let said : Looks m.number line guarantee wait t.before t.notes t.drawn × Gives (base_at front.collection front.floor channel) guarantee wait (t.before ++ t.notes) (looks.Served view) = l.3 in
        let many : length turns ≡ channel = w.many in
        let place : channel ≡ 0 + length turns = omega arith in
        let at : LooksAt s.number line guarantee wait (0 + length turns) t = (l.2 ∙ place, subst (λ (n : ℕ). Looks n line guarantee wait t.before t.notes t.drawn) named said.0) in (
          turns ++ t ∷ [],
          did_more s m e turns t so_far.1 l.1,
          record {
            looks = looks_snoc s.number line guarantee wait 0 turns t w.looks at said.1.1;
            many = length-append turns (t ∷ []) ∙ ap (λ (n : ℕ). n + 1) many;
            shown = views_snoc front 0 turns views t view w.shown (subst (λ (n : ℕ). IsViewAt (base_at front.collection front.floor n) (t.before ++ t.notes) view) place said.1.0);
          },
        )

    pub ends_pending : (E : Type 0) (tick : Timestamp) → channel < front.collection.channels → LooksOnce {E = E} m e channel (Ok (looks.Pending tick))
        → (turns : List (Turned Note)) × Did s (map Took turns) e × EndsAt front s.number line guarantee wait channel tick.0 turns
    ends_pending E tick within l =
        let turns : List (Turned Note) = so_far.0 in
        let t : Turned Note = l.0 in
        let w : ServesFirst front s.number line guarantee wait channel turns views = so_far.2 in
        let said : Looks m.number line guarantee wait t.before t.notes t.drawn × Gives (base_at front.collection front.floor channel) guarantee wait (t.before ++ t.notes) (looks.Pending tick) = l.3 in (
          turns ++ t ∷ [],
          did_more s m e turns t so_far.1 l.1,
          record {
            served = turns;
            last = t;
            only = refl;
            looks = w.looks;
            place = w.many;
            within = within;
            look = (l.2, subst (λ (n : ℕ). Looks n line guarantee wait t.before t.notes t.drawn) named said.0);
            alone = said.1.0;
            told = said.1.1;
            below = said.1.2;
          },
        )
