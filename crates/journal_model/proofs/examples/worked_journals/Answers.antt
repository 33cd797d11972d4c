use Rattle.journal_model.proofs.Worked.{insert_leaves, upsert_leaves, remove_leaves, tick_leaves, seal_leaves, seal_answer, look_leaves, look_served, look_pending, number_leaves, number_is_next, load_leaves, load_again, leader_gone, other_node, release_leaves, last_place, last_place_unlawful, lists_leave, merge_leaves, merged_again, source_gone, merged_away, purge_leaves}
use Rattle.journal_model.proofs.examples.worked_journals.Goals as goal

pub returns-clause-insert_leaves : goal.returns-clause-insert_leaves
returns-clause-insert_leaves c = insert_leaves

pub returns-clause-upsert_leaves : goal.returns-clause-upsert_leaves
returns-clause-upsert_leaves c = upsert_leaves

pub returns-clause-remove_leaves : goal.returns-clause-remove_leaves
returns-clause-remove_leaves c = remove_leaves

pub returns-clause-tick_leaves : goal.returns-clause-tick_leaves
returns-clause-tick_leaves c = tick_leaves

pub returns-clause-seal_leaves : goal.returns-clause-seal_leaves
returns-clause-seal_leaves c = seal_leaves

pub returns-clause-seal_answer : goal.returns-clause-seal_answer
returns-clause-seal_answer c = seal_answer

pub returns-clause-look_leaves : goal.returns-clause-look_leaves
returns-clause-look_leaves c = look_leaves

pub returns-clause-look_served : goal.returns-clause-look_served
returns-clause-look_served c = look_served

pub returns-clause-look_pending : goal.returns-clause-look_pending
returns-clause-look_pending c = look_pending

pub returns-clause-number_leaves : goal.returns-clause-number_leaves
returns-clause-number_leaves c = number_leaves

pub returns-clause-number_is_next : goal.returns-clause-number_is_next
returns-clause-number_is_next c = number_is_next

pub returns-clause-load_leaves : goal.returns-clause-load_leaves
returns-clause-load_leaves c = load_leaves

pub returns-clause-load_again : goal.returns-clause-load_again
returns-clause-load_again c = load_again

pub returns-clause-leader_gone : goal.returns-clause-leader_gone
returns-clause-leader_gone c = leader_gone

pub returns-clause-other_node : goal.returns-clause-other_node
returns-clause-other_node c = other_node

pub returns-clause-release_leaves : goal.returns-clause-release_leaves
returns-clause-release_leaves c = release_leaves

pub returns-clause-last_place : goal.returns-clause-last_place
returns-clause-last_place c = last_place

pub returns-clause-last_place_unlawful : goal.returns-clause-last_place_unlawful
returns-clause-last_place_unlawful c = last_place_unlawful

pub returns-clause-lists_leave : goal.returns-clause-lists_leave
returns-clause-lists_leave c = lists_leave

pub returns-clause-merge_leaves : goal.returns-clause-merge_leaves
returns-clause-merge_leaves c = merge_leaves

pub returns-clause-merged_again : goal.returns-clause-merged_again
returns-clause-merged_again c = merged_again

pub returns-clause-source_gone : goal.returns-clause-source_gone
returns-clause-source_gone c = source_gone

pub returns-clause-merged_away : goal.returns-clause-merged_away
returns-clause-merged_away c = merged_away

pub returns-clause-purge_leaves : goal.returns-clause-purge_leaves
returns-clause-purge_leaves c = purge_leaves
