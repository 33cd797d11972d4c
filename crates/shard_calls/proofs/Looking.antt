-- A look, with the tick before it.
use Rattle.std.proofs.Common.{◌≡◌, ◌⊎◌, ⊎_elim, ℕ, ◌<◌, ◌≤◌, Bool, true, false, List, [], ◌∷◌, ◌++◌, length, Ok, Err, inl, inr, refl, ap, sym, ◌∙◌, subst, arith, leb-true, leb-false}
use Rattle.std.specs.Prelude.{nat_le, if◌then◌else◌, IfOk, OnOk, OnErr, MatchResult}
use Rattle.std.specs.declared.result.Result.{Result}
use Rattle.hybrid_time.specs.declared.times.Timestamp.{Timestamp}
use Rattle.turn_table.specs.Seats.{SeatView}
use Rattle.seat_walks.specs.Walks.{Puts}
use Rattle.journal_model.specs.declared.notes.Kind.TheVariants.{Tick, Look}
use Rattle.journal_model.specs.declared.notes.Note.{Note}
use Rattle.journal_model.specs.Notes.{note_of, tick_of}
use Rattle.journal_model.specs.Answers.{Reply, Served, Pending, look_reply, answer_at}
use Rattle.journal_model.specs.Runs.{State, IsSound}
use Rattle.journal_model.specs.Views.{View, IsExact}
use Rattle.journal_model.proofs.NoteLaws.{tick_of-snoc}
use Rattle.channel_view.specs.Views.{ChannelView, view_in}
use Rattle.shard_core.specs.Keys.{AreKeysIn}
use Rattle.shard_core.specs.Shards.{ChannelShard, ChannelBase, Steps, base_of, looked_reply, IfServed, IsViewOf}
use Rattle.shard_core.specs.declared.replies.Looked.{Looked}
use Rattle.shard_core.specs.declared.replies.Looked.TheVariants as looks
use Rattle.call_model.specs.Turns.{by_of, time_of, stamp, Looks, LooksAtOnce, TicksAndLooks}
use Rattle.shard_calls.specs.Calls.{IsIdle, TicksFirst, BreaksOff, IsViewAt, Gives}
use Rattle.shard_calls.specs.Under.{IsReached, CatchesUp}
use Rattle.shard_calls.proofs.Noted.{own_look, puts_more, exact_look}

module _ (by line guarantee : ℕ) (wait : Bool) (before notes : List Note) (numbers : List ℕ) where
  -- the look behind it
  pub looks_behind : (wait ≡ true → guarantee ≤ tick_of (before ++ notes)) → CatchesUp by line guarantee wait before notes numbers → Looks by line guarantee wait before (notes ++ note_of by line (Look (stamp guarantee)) ∷ []) numbers
  looks_behind high c =
      let look : List Note = note_of by line (Look (stamp guarantee)) ∷ [] in
      ⊎_elim
      (λ (r : IsReached guarantee wait before notes numbers). inl record { drawn = r.idle.undrawn; noted = ap (λ (l : List Note). l ++ look) r.idle.none; reached = r.reached })
      (λ (t : TicksFirst by line guarantee wait before notes numbers).
      let tick : tick_of (before ++ notes) ≡ t.ts = ap (λ (l : List Note). tick_of (before ++ l)) t.noted ∙ tick_of-snoc before (note_of by line (Tick (stamp t.ts))) in
      let high : guarantee ≤ tick_of (before ++ notes) = high t.waits in
      inr record { ts = t.ts; drawn = t.drawn; noted = ap (λ (l : List Note). l ++ look) t.noted; waits = t.waits; below = t.below; reaches = omega arith })
      c

  pub breaks_off : CatchesUp by line guarantee wait before notes numbers → BreaksOff by line guarantee wait before notes numbers
  breaks_off c = ⊎_elim (λ (r : IsReached guarantee wait before notes numbers). inl r.idle) (λ (t : TicksFirst by line guarantee wait before notes numbers). inr t) c

  pub looks_few : Looks by line guarantee wait before notes numbers → length numbers ≤ 1
  looks_few l =
      ⊎_elim (λ (a : LooksAtOnce by line guarantee wait before notes numbers). let e : length numbers ≡ 0 = ap length a.drawn in omega arith)
      (λ (t : TicksAndLooks by line guarantee wait before notes numbers). let e : length numbers ≡ 1 = ap length t.drawn in omega arith) l

  pub breaks_few : BreaksOff by line guarantee wait before notes numbers → length numbers ≤ 1
  breaks_few b =
      ⊎_elim (λ (i : IsIdle notes numbers). let e : length numbers ≡ 0 = ap length i.undrawn in omega arith)
      (λ (t : TicksFirst by line guarantee wait before notes numbers). let e : length numbers ≡ 1 = ap length t.drawn in omega arith) b

-- ---- what a look is answered

reply_served : (b : Bool) (tick : ℕ) → ◌≡◌ {A = Reply} (if b then Served else Pending tick) Served → b ≡ true
reply_served true tick e = refl
reply_served false tick e = absurd (let z : ⊥ = cc in z)

reply_pending : (b : Bool) (tick told : ℕ) → ◌≡◌ {A = Reply} (if b then Served else Pending tick) (Pending told) → (b ≡ false) × (tick ≡ told)
reply_pending true tick told e = absurd (let z : ⊥ = cc in z)
reply_pending false tick told e = (refl, cc)

does_not_wait : (wait : Bool) (P : Type 0) → (wait ≡ true → ⊥) → wait ≡ false
does_not_wait true P h = absurd (h refl)
does_not_wait false P h = refl

module _ (line : ℕ) (guarantee : Timestamp) (wait : Bool) (s e : SeatView Note ChannelBase) (found new : ChannelShard) (base : ChannelBase) (before notes : List Note) (numbers : List ℕ) where
  abbrev look : Note
  look = note_of s.number line (Look guarantee)

  -- what is owed for a look under its turn
  abbrev pub IsLooked : {E : Type 0} → Result Looked E → Type 0
  IsLooked result = (more : List Note) × (drawn : List ℕ) × Puts by_of time_of s e before new.state.notes more drawn
      × MatchResult result (λ looked. Looks s.number line guarantee.0 wait before more drawn × Gives base guarantee.0 wait (before ++ more) looked) (λ _. BreaksOff s.number line guarantee.0 wait before more drawn)

  module _ (same : base_of found ≡ base) (p : Puts by_of time_of s e before found.state.notes notes numbers) (up : CatchesUp s.number line guarantee.0 wait before notes numbers) (reached : wait ≡ true → guarantee.0 ≤ tick_of found.state.notes) where
    after_look : Steps found new look → Puts by_of time_of s e before new.state.notes (notes ++ look ∷ []) numbers
    after_look step = puts_more s e before found.state.notes new.state.notes notes (look ∷ []) numbers p (ap (λ (st : State). st.notes) step.state) (own_look s.number line guarantee)

    seen_look : Looks s.number line guarantee.0 wait before (notes ++ look ∷ []) numbers
    seen_look = looks_behind s.number line guarantee.0 wait before notes numbers (λ w. subst (λ (l : List Note). guarantee.0 ≤ tick_of l) p.journal (reached w)) up

    same_tick : Steps found new look → tick_of (before ++ (notes ++ look ∷ [])) ≡ tick_of found.state.notes
    same_tick step = ap tick_of (sym (after_look step).journal ∙ ap (λ (st : State). st.notes) step.state) ∙ tick_of-snoc found.state.notes look

    pub served : (E : Type 0) (view : ChannelView) → Steps found new look → answer_at found.channel found.state.notes (Look guarantee) ≡ Served → IsViewOf found view → IsExact found.state.notes (view_in view)
        → IsSound new.channel new.state → AreKeysIn new.collection.channels new.channel.number new.state.notes → IsLooked {E = E} (Ok (looks.Served view))
    served E view step answer is exact sound keys =
        let all : new.state.notes ≡ before ++ (notes ++ look ∷ []) = (after_look step).journal in
        let behind : IsExact new.state.notes (view_in view) = subst (λ (l : List Note). IsExact l (view_in view)) (sym (ap (λ (st : State). st.notes) step.state)) (exact_look found.state.notes (view_in view) s.number line guarantee exact) in
        let tick : tick_of (before ++ (notes ++ look ∷ [])) ≡ tick_of found.state.notes = same_tick step in
        let high : guarantee.0 ≤ tick_of found.state.notes = leb-true guarantee.0 (tick_of found.state.notes) (reply_served (nat_le guarantee.0 (tick_of found.state.notes)) (tick_of found.state.notes) answer) in
        let kept : base_of new ≡ base = (λ i. record { channel = step.channel i; collection = step.collection i; floor = (step.state i).floor }) ∙ same in
        let at : IsViewAt base (before ++ (notes ++ look ∷ [])) view = record {
          collection = is.collection ∙ ap (λ (b : ChannelBase). b.collection) same;
          channel = is.channel ∙ ap (λ (b : ChannelBase). b.channel.number) same;
          floor = ap (λ (v : View). v.floor) is.rows ∙ ap (λ (b : ChannelBase). b.floor) same;
          exact = subst (λ (l : List Note). IsExact l (view_in view)) all behind;
          sound = subst (λ (l : List Note). IsSound base.channel (record { notes = l; floor = base.floor })) all (subst (λ (b : ChannelBase). IsSound b.channel (record { notes = new.state.notes; floor = b.floor })) kept sound);
          keys = subst (λ (l : List Note). AreKeysIn base.collection.channels base.channel.number l) all (subst (λ (b : ChannelBase). AreKeysIn b.collection.channels b.channel.number new.state.notes) kept keys);
        } in
        (notes ++ look ∷ [], numbers, after_look step, (seen_look, (at, omega arith)))

    pub pending : (E : Type 0) (told : Timestamp) → Steps found new look → answer_at found.channel found.state.notes (Look guarantee) ≡ Pending told.0 → IsLooked {E = E} (Ok (looks.Pending told))
    pending E told step answer =
        let said = reply_pending (nat_le guarantee.0 (tick_of found.state.notes)) (tick_of found.state.notes) told.0 answer in
        let low : tick_of found.state.notes < guarantee.0 = leb-false guarantee.0 (tick_of found.state.notes) said.0 in
        let is : tick_of found.state.notes ≡ told.0 = said.1 in
        let tick : tick_of (before ++ (notes ++ look ∷ [])) ≡ tick_of found.state.notes = same_tick step in
        let rest : wait ≡ false = does_not_wait wait (Unit {0}) (λ w. let high : guarantee.0 ≤ tick_of found.state.notes = reached w in omega arith) in
        (notes ++ look ∷ [], numbers, after_look step, (seen_look, (rest, sym (tick ∙ is), omega arith)))

    pub looked_under : {E : Type 0} (result : Result Looked E) → OnOk result (Steps found new look) → IfOk result (λ looked. answer_at found.channel found.state.notes (Look guarantee) ≡ looked_reply looked) → IfOk result (λ looked. IfServed looked (IsViewOf found))
        → IfOk result (λ looked. IfServed looked (λ view. IsExact found.state.notes (view_in view))) → OnErr result (new ≡ found)
        → IsSound new.channel new.state → AreKeysIn new.collection.channels new.channel.number new.state.notes → IsLooked result
    looked_under {E = E} (Ok (looks.Served view)) step answer is exact err sound keys = served E view step answer is exact sound keys
    looked_under {E = E} (Ok (looks.Pending told)) step answer is exact err sound keys = pending E told step answer
    looked_under {E = E} (Err failed) step answer is exact err sound keys =
        (notes, numbers, subst (λ (v : ChannelShard). Puts by_of time_of s e before v.state.notes notes numbers) (sym err) p, breaks_off s.number line guarantee.0 wait before notes numbers up)
