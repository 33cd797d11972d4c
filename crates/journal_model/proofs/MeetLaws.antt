-- After a meet at least half of the rows on nodes are alive.
use Rattle.std.proofs.Common.{◌≡◌, ℕ, ℤ, ◌+◌, ◌*◌, ◌<◌, ◌≤◌, true, false, cond, not, ◌&&◌, List, [], ◌∷◌, ◌++◌, map, length, take, Option, Some, None, refl, sym, ap, subst, ◌∙◌, inl, inr, ⊎_elim, arith, append_assoc, append-nil, eqb-true}
use Rattle.std.specs.Prelude.{is_some, nat_eq, IfSome}
use Rattle.std.specs.Option.{option_or}
use Rattle.std.specs.List.{find, AllByRecursion, count_by, sum_by}
use Rattle.std.proofs.lemmas.Bool.{cases_lt, and_parts, not_from_false}
use Rattle.std.proofs.lemmas.List.{take_all, take-append-le, length_push, length-append, map-append}
use Rattle.log_model.proofs.LogLaws.{each-append, each_implied}
use Rattle.journal_model.specs.declared.notes.Kind.TheVariants.{Number, Merge}
use Rattle.journal_model.specs.declared.notes.Note.{Note}
use Rattle.journal_model.specs.Groups.{kept_rows, grouped, is_mostly_dead, meet_groups, numbers_of, MergesOf, Done, Begins, Commits}
use Rattle.journal_model.specs.Notes.{ts_of, note_of}
use Rattle.journal_model.specs.Journals.{is_next, IsJournal, UpTo, AreUpTo}
use Rattle.journal_model.specs.Puts.{ended, dead_at, death}
use Rattle.journal_model.specs.Layouts.{Channel, Segment, BegunMerge, number_at, rows_in, is_among, is_kept, begun_merge, after_merge, layout_of}
use Rattle.journal_model.specs.Lawful.{is_lawful, IsLawful, IsBegun}
use Rattle.journal_model.specs.Lists.{IsIn, joined}
use Rattle.journal_model.specs.Invariants.{IsFresh}
use Rattle.journal_model.specs.Counts.{is_alive, is_waiting, on_nodes, counts_of}
use Rattle.log_model.specs.Places.{Placed}
use Rattle.journal_model.proofs.WalkLaws.{each-parts, each-front, each-snoc, each-at}
use Rattle.journal_model.proofs.PutLaws.{dead_at-append, dead_at-new, dead_at_past, first_end-one}
use Rattle.journal_model.proofs.ListLaws.{in_filter, out_filter, in_map, in_cases, all_in}
use Rattle.journal_model.proofs.LayoutLaws.{layout-snoc}
use Rattle.journal_model.proofs.NumberLaws.{numbers, taken_low}
use Rattle.journal_model.proofs.BegunLaws.{begun_origin}
use Rattle.journal_model.proofs.CountLaws.{kept_alive, count_alike, meet_spares, AreClean, merge_cleans, clean_counts, joined-grouped, each_grouped}
use Rattle.journal_model.proofs.OrderLaws.{follow_up_to, next_follows}
use Rattle.journal_model.proofs.GroupLaws.{number_any}
use Rattle.std.proofs.lemmas.List.Sums.{count_by-le-length}

or_none : (o : Option ℕ) → option_or o None ≡ o
or_none None = refl
or_none (Some t) = refl

-- a note that ends no row leaves each death as it is
quiet : (notes : List Note) (note : Note) (x : Placed) → ended x.row.key.0 note.kind ≡ None → death (notes ++ note ∷ []) x ≡ death notes x
quiet notes note x none = ⊎_elim
    (λ lt. dead_at-append notes (note ∷ []) x.position x.row.key.0 lt ∙ ap (option_or (death notes x)) (first_end-one x.row.key.0 note ∙ none) ∙ or_none (death notes x))
    (λ ge. ⊎_elim
    (λ lt. dead_at_at notes note x.position x.row.key.0 (omega (arith, length_push notes note)) ∙ sym (dead_at_past notes x.position x.row.key.0 ge))
    (λ past. dead_at_past (notes ++ note ∷ []) x.position x.row.key.0 past ∙ sym (dead_at_past notes x.position x.row.key.0 ge))
    (cases_lt x.position (length (notes ++ note ∷ []))))
    (cases_lt x.position (length notes))
  where
    dead_at_at : (notes : List Note) (note : Note) (p : ℕ) (key : ℤ) → p ≡ length notes → dead_at (notes ++ note ∷ []) p key ≡ None
    dead_at_at notes note p key at = ap (λ q. dead_at (notes ++ note ∷ []) q key) at ∙ dead_at-new notes note key

clean_longer : (notes : List Note) (note : Note) (left : List ℕ) (segments : List Segment) → ((key : ℤ) → ended key note.kind ≡ None) → AreClean notes left segments → AreClean (notes ++ note ∷ []) left segments
unfolding AreClean
clean_longer notes note left segments none clean s i on = ⊎_elim (λ l. inl l) (λ r. inr (λ x j. ap (λ o. not (is_some o)) (quiet notes note x (none x.row.key.0)) ∙ r x j)) (clean s i on)

-- ---- a meet on its way

-- the notes so far are lawful and up to the floor; of the groups that are left the segments still wait for their merge;
-- and what a merge that began with one of the numbers keeps is alive
pub record Meeting (channel : Channel) (floor : ℕ) (taken left : List ℕ) (notes : List Note) : Type 0 where
  pub lawful : IsLawful channel notes
  pub low : AreUpTo floor notes
  pub clean : AreClean notes left (layout_of channel notes).segments
  pub cuts : (b : BegunMerge) → IsIn b (layout_of channel notes).begun → IsIn b.number taken → (x : Placed) → is_kept (take b.at notes) b.floor x ≡ true → is_alive notes x ≡ true

begun_within : (channel : Channel) (notes : List Note) → IsLawful channel notes → (b : BegunMerge) → IsIn b (layout_of channel notes).begun → b.at ≤ length notes
begun_within channel notes lawful b i =
    let o : IsBegun notes b = all_in (λ c. IsBegun notes c) (layout_of channel notes).begun b (begun_origin channel notes lawful) i in
    let at = o.at in
    let whole : length notes ≡ length (o.before ++ o.note ∷ o.rest) = ap length o.is in
    let parts : length (o.before ++ o.note ∷ o.rest) ≡ length o.before + length (o.note ∷ o.rest) = length-append o.before (o.note ∷ o.rest) in
    omega arith

module _ (channel : Channel) (floor : ℕ) (taken left : List ℕ) (notes : List Note) where
  old_cut : (note : Note) → ((key : ℤ) → ended key note.kind ≡ None) → Meeting channel floor taken left notes → (b : BegunMerge) → IsIn b (layout_of channel notes).begun → IsIn b.number taken
      → (x : Placed) → is_kept (take b.at (notes ++ note ∷ [])) b.floor x ≡ true → is_alive (notes ++ note ∷ []) x ≡ true
  old_cut note none m b i j x h =
      ap (λ o. not (is_some o)) (quiet notes note x (none x.row.key.0))
      ∙ m.cuts b i j x (subst (λ l. is_kept l b.floor x ≡ true) (take-append-le b.at notes (note ∷ []) (begun_within channel notes m.lawful b i)) h)

  begins : (by line number : ℕ) → is_lawful channel notes (note_of by line (Number number (record { 0 = floor }))) ≡ true → Meeting channel floor taken left notes
      → Meeting channel floor (number ∷ taken) left (notes ++ note_of by line (Number number (record { 0 = floor })) ∷ [])
  begins by line number ok m = record {
    lawful = each-snoc (λ before n. is_lawful channel before n ≡ true) notes one m.lawful ok;
    low = up;
    clean = subst (λ l. AreClean (notes ++ one ∷ []) left l.segments) (sym (layout-snoc channel notes one)) (clean_longer notes one left (layout_of channel notes).segments (λ key. refl) m.clean);
    cuts = λ b i j. ⊎_elim
        (λ k. old_cut one (λ key. refl) m b k (not_new b k j))
        (λ k. is_new b k)
        (in_cases b (layout_of channel notes).begun (new ∷ []) (subst (λ l. IsIn b l.begun) (layout-snoc channel notes one) i));
  }
    where
      one : Note
      one = note_of by line (Number number (record { 0 = floor }))

      new : BegunMerge
      new = record { number = number; by = by; floor = floor; at = length notes + 1 }

      up : AreUpTo floor (notes ++ note_of by line (Number number (record { 0 = floor })) ∷ [])
      up = each-append (λ n. UpTo floor (ts_of n.kind)) notes (note_of by line (Number number (record { 0 = floor })) ∷ []) m.low (tt, tt)

      not_new : (b : BegunMerge) → IsIn b (layout_of channel notes).begun → IsIn b.number (number ∷ taken) → IsIn b.number taken
      not_new b k (inr j) = j
      not_new b k (inl e) =
          let f : IsFresh channel (layout_of channel notes) b.number = all_in (λ c. IsFresh channel (layout_of channel notes) c.number) (layout_of channel notes).begun b (numbers channel notes m.lawful).fresh k in
          let lt : b.number < number_at channel (layout_of channel notes).taken = taken_low channel (layout_of channel notes).taken b.number f.0 in
          let next : number ≡ number_at channel (layout_of channel notes).taken = eqb-true number (number_at channel (layout_of channel notes).taken) ok in
          absurd (omega arith)

      is_new : (b : BegunMerge) → IsIn b (record { number = number; by = by; floor = floor; at = length notes + 1 } ∷ []) → (x : Placed)
          → is_kept (take b.at (notes ++ note_of by line (Number number (record { 0 = floor })) ∷ [])) b.floor x ≡ true → is_alive (notes ++ note_of by line (Number number (record { 0 = floor })) ∷ []) x ≡ true
      is_new b (inr k) x h = absurd k
      is_new b (inl e) x h =
          let two : Note = note_of by line (Number number (record { 0 = floor })) in
          let whole : take (length notes + 1) (notes ++ two ∷ []) ≡ notes ++ two ∷ [] = take_all (length notes + 1) (notes ++ two ∷ []) (omega (arith, length_push notes two)) in
          sym (kept_alive (notes ++ two ∷ []) floor x up) ∙ ap (λ l. is_kept l floor x) (sym whole) ∙ subst (λ d. is_kept (take d.at (notes ++ two ∷ [])) d.floor x ≡ true) e h

found_in : (n by : ℕ) (begun : List BegunMerge) (b : BegunMerge) → find (λ c. nat_eq c.number n && nat_eq c.by by) begun ≡ Some b → IsIn b begun × (b.number ≡ n)
found_in n by [] b e = cc
found_in n by (c ∷ begun) b e = elim (nat_eq c.number n && nat_eq c.by by) as (λ t. (nat_eq c.number n && nat_eq c.by by) ≡ t → cond t (Some c) (find (λ d. nat_eq d.number n && nat_eq d.by by) begun) ≡ Some b → IsIn b (c ∷ begun) × (b.number ≡ n)) [
  | true ↦ λ t g. let same : b ≡ c = cc in (inl same, ap (λ d. d.number) same ∙ eqb-true c.number n (and_parts (nat_eq c.number n) (nat_eq c.by by) t).0)
  | false ↦ λ t g. let rest = found_in n by begun b g in (inr rest.0, rest.1)
] refl e

module _ (channel : Channel) (floor : ℕ) (taken left group : List ℕ) (notes : List Note) where
  commits : (by line : ℕ) (segment : Option ℕ) (node : ℕ) → IfSome segment (λ number. IsIn number taken) → is_lawful channel notes (note_of by line (Merge group segment node)) ≡ true
      → Meeting channel floor taken (group ++ left) notes → Meeting channel floor taken left (notes ++ note_of by line (Merge group segment node) ∷ [])
  commits by line segment node own ok m = record {
    lawful = each-snoc (λ before n. is_lawful channel before n ≡ true) notes (note_of by line (Merge group segment node)) m.lawful ok;
    low = each-append (λ n. UpTo floor (ts_of n.kind)) notes (note_of by line (Merge group segment node) ∷ []) m.low (tt, tt);
    clean = subst (λ l. AreClean (notes ++ note_of by line (Merge group segment node) ∷ []) left l.segments) (sym (layout-snoc channel notes (note_of by line (Merge group segment node))))
        (clean_longer notes (note_of by line (Merge group segment node)) left (after_merge notes by (layout_of channel notes) group segment node).segments (λ key. refl)
        (merge_cleans notes by (layout_of channel notes) group left segment node fit m.clean));
    cuts = λ b i j. old_cut channel floor taken (group ++ left) notes (note_of by line (Merge group segment node)) (λ key. refl) m b
        (still segment b (subst (λ l. IsIn b l.begun) (layout-snoc channel notes (note_of by line (Merge group segment node))) i)) j;
  }
    where
      fit : (n : ℕ) (b : BegunMerge) → segment ≡ Some n → begun_merge (layout_of channel notes) by n ≡ Some b → (x : Placed) → is_kept (take b.at notes) b.floor x ≡ true → is_alive notes x ≡ true
      fit n b e f =
          let f = found_in n by (layout_of channel notes).begun b f in
          let at : IsIn n taken = subst (λ o. IfSome o (λ number. IsIn number taken)) e own in
          m.cuts b f.0 (subst (λ k. IsIn k taken) (sym f.1) at)

      still : (o : Option ℕ) (b : BegunMerge) → IsIn b (after_merge notes by (layout_of channel notes) group o node).begun → IsIn b (layout_of channel notes).begun
      still None b i = i
      still (Some n) b i = (out_filter (λ c. not (nat_eq c.number n)) b (layout_of channel notes).begun i).0

pub merges_clean : (channel : Channel) (floor : ℕ) (taken : List ℕ) (groups : List (List ℕ)) (more : List Note) → MergesOf floor taken groups more
    → (notes : List Note) → Meeting channel floor taken (joined groups) notes → IsLawful channel (notes ++ more) → AreClean (notes ++ more) [] (layout_of channel (notes ++ more)).segments
merges_clean channel floor taken groups more (Done _) notes m lawful = subst (λ l. AreClean l [] (layout_of channel l).segments) (sym (append-nil notes)) m.clean
merges_clean channel floor taken groups more (Begins by line number _ _ rest h) notes m lawful =
    let one : Note = note_of by line (Number number (record { 0 = floor })) in
    let split : (notes ++ one ∷ []) ++ rest ≡ notes ++ one ∷ rest = append_assoc notes (one ∷ []) rest in
    let ok = each-at (λ before n. is_lawful channel before n ≡ true) notes one rest lawful in
    subst (λ l. AreClean l [] (layout_of channel l).segments) split
    (merges_clean channel floor (number ∷ taken) groups rest h (notes ++ one ∷ []) (begins channel floor taken (joined groups) notes by line number ok m) (subst (IsLawful channel) (sym split) lawful))
merges_clean channel floor taken groups more (Commits by line group segment node _ others rest own h) notes m lawful =
    let one : Note = note_of by line (Merge group segment node) in
    let split : (notes ++ one ∷ []) ++ rest ≡ notes ++ one ∷ rest = append_assoc notes (one ∷ []) rest in
    let ok = each-at (λ before n. is_lawful channel before n ≡ true) notes one rest lawful in
    subst (λ l. AreClean l [] (layout_of channel l).segments) split
    (merges_clean channel floor taken others rest h (notes ++ one ∷ []) (commits channel floor taken (joined others) group notes by line segment node own ok m) (subst (IsLawful channel) (sym split) lawful))

-- ---- the groups of a meet are all segments on nodes

joined-numbers : (groups : List (List Segment)) → joined (numbers_of groups) ≡ map (λ s. s.number) (joined groups)
joined-numbers [] = refl
joined-numbers (g ∷ groups) = ap (λ l. map (λ s. s.number) g ++ l) (joined-numbers groups) ∙ sym (map-append (λ (s : Segment). s.number) g (joined groups))

all_left : (notes : List Note) (segments : List Segment) (left : List ℕ) → left ≡ map (λ s. s.number) (on_nodes segments) → AreClean notes left segments
unfolding AreClean
all_left notes segments left is s i on = inl (subst (λ l. is_among l s ≡ true) (sym is)
    (number_any s.number (map (λ z. z.number) (on_nodes segments)) (in_map (λ (z : Segment). z.number) s (on_nodes segments) (in_filter (λ z. not (is_waiting z)) s segments i (not_from_false (is_waiting s) on)))))

-- where a meet has no group, the rows on nodes and their deaths stay
unmerged : (channel : Channel) (floor : ℕ) (taken : List ℕ) (groups : List (List ℕ)) (more : List Note) → MergesOf floor taken groups more → groups ≡ []
    → (notes : List Note) → length (rows_in (on_nodes (layout_of channel notes).segments)) ≤ 2 * count_by (is_alive notes) (rows_in (on_nodes (layout_of channel notes).segments))
    → length (rows_in (on_nodes (layout_of channel (notes ++ more)).segments)) ≤ 2 * count_by (is_alive (notes ++ more)) (rows_in (on_nodes (layout_of channel (notes ++ more)).segments))
unmerged channel floor taken groups more (Done _) none notes few =
    subst (λ l. length (rows_in (on_nodes (layout_of channel l).segments)) ≤ 2 * count_by (is_alive l) (rows_in (on_nodes (layout_of channel l).segments))) (sym (append-nil notes)) few
unmerged channel floor taken groups more (Commits by line group segment node _ others rest own h) none notes few = cc
unmerged channel floor taken groups more (Begins by line number _ _ rest h) none notes few =
    let one : Note = note_of by line (Number number (record { 0 = floor })) in
    subst (λ l. length (rows_in (on_nodes (layout_of channel l).segments)) ≤ 2 * count_by (is_alive l) (rows_in (on_nodes (layout_of channel l).segments))) (append_assoc notes (one ∷ []) rest)
    (unmerged channel floor (number ∷ taken) groups rest h none (notes ++ one ∷ [])
    (subst (λ ss. length (rows_in (on_nodes ss)) ≤ 2 * count_by (is_alive (notes ++ one ∷ [])) (rows_in (on_nodes ss))) (ap (λ l. l.segments) (sym (layout-snoc channel notes one)))
    (subst (λ n. length (rows_in (on_nodes (layout_of channel notes).segments)) ≤ 2 * n)
    (count_alike (is_alive notes) (is_alive (notes ++ one ∷ [])) (rows_in (on_nodes (layout_of channel notes).segments)) (λ x. ap (λ o. not (is_some o)) (sym (quiet notes one x refl)))) few)))

-- after a meet at least half of the rows on nodes are alive
pub meet_bound : (channel : Channel) (floor : ℕ) (notes more : List Note) → AreUpTo floor notes → MergesOf floor [] (numbers_of (meet_groups channel notes floor)) more → IsLawful channel (notes ++ more)
    → (counts_of channel (notes ++ more)).node_rows ≤ 2 * (counts_of channel (notes ++ more)).node_live
meet_bound channel floor notes more low merges lawful =
    elim (is_mostly_dead notes floor (rows_in (on_nodes (layout_of channel notes).segments))) as
    (λ b. is_mostly_dead notes floor (rows_in (on_nodes (layout_of channel notes).segments)) ≡ b
    → MergesOf floor [] (numbers_of (cond b (grouped channel.seal_rows (kept_rows notes floor) (on_nodes (layout_of channel notes).segments)) [])) more
    → (counts_of channel (notes ++ more)).node_rows ≤ 2 * (counts_of channel (notes ++ more)).node_live) [
      | true ↦ λ e m.
          let groups : List (List Segment) = grouped channel.seal_rows (kept_rows notes floor) (on_nodes (layout_of channel notes).segments) in
          let start : Meeting channel floor [] (joined (numbers_of (grouped channel.seal_rows (kept_rows notes floor) (on_nodes (layout_of channel notes).segments)))) notes = record {
            lawful = front;
            low = low;
            clean = all_left notes (layout_of channel notes).segments (joined (numbers_of groups)) (joined-numbers groups ∙ ap (map (λ s. s.number)) (joined-grouped channel.seal_rows (kept_rows notes floor) [] 0 (on_nodes (layout_of channel notes).segments)));
            cuts = λ b i j. absurd j;
          } in
          all_alive (merges_clean channel floor [] (numbers_of (grouped channel.seal_rows (kept_rows notes floor) (on_nodes (layout_of channel notes).segments))) more m notes start lawful)
      | false ↦ λ e m. unmerged channel floor [] [] more m refl notes (meet_spares notes floor (rows_in (on_nodes (layout_of channel notes).segments)) low e)
    ] refl merges
  where
    front : IsLawful channel notes
    front = each-front (λ before n. is_lawful channel before n ≡ true) notes more lawful

    all_alive : AreClean (notes ++ more) [] (layout_of channel (notes ++ more)).segments → (counts_of channel (notes ++ more)).node_rows ≤ 2 * (counts_of channel (notes ++ more)).node_live
    all_alive clean = let same : length (rows_in (on_nodes (layout_of channel (notes ++ more)).segments)) ≡ count_by (is_alive (notes ++ more)) (rows_in (on_nodes (layout_of channel (notes ++ more)).segments)) = clean_counts (notes ++ more) (layout_of channel (notes ++ more)).segments clean in omega arith

-- behind a note with a timestamp all notes are up to it
pub all_up_to : (notes : List Note) (note : Note) (ts : ℕ) → IsJournal (notes ++ note ∷ []) → ts_of note.kind ≡ Some ts → AreUpTo ts (notes ++ note ∷ [])
all_up_to notes note ts journal dated =
    let parts = each-parts (λ before n. is_next before n ≡ true) notes note journal in
    each-append (λ n. UpTo ts (ts_of n.kind)) notes (note ∷ []) (follow_up_to ts notes note dated (next_follows notes note parts.1)) (subst (UpTo ts) (sym dated) (omega arith), tt)

-- each group of a meet or of a compaction keeps at most `seal_rows` rows
pub groups_few : (channel : Channel) (notes : List Note) (floor : ℕ) (segments : List Segment) → AllByRecursion (λ s. length s.piece ≤ channel.seal_rows) segments
    → AllByRecursion (λ group. (sum_by (kept_rows notes floor) group ≤ channel.seal_rows) × (0 < length group)) (grouped channel.seal_rows (kept_rows notes floor) segments)
groups_few channel notes floor segments short = each_grouped channel.seal_rows (kept_rows notes floor) [] 0 segments refl (omega arith)
    (each_implied (λ s. length s.piece ≤ channel.seal_rows) (λ s. kept_rows notes floor s ≤ channel.seal_rows) (λ s few. let le : count_by (is_kept notes floor) s.piece ≤ length s.piece = count_by-le-length (is_kept notes floor) s.piece in omega arith) segments short)
