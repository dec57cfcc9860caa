use Rattle.std.proofs.lemmas.List.{map_push}
use Rattle.description_items.proofs.FormLists.{all_push}
use Rattle.description_items.specs.Forms.{is_of_text}
use Rattle.description_items.specs.Tree.{tree_of}
use Rattle.description_strftime.proofs.items.push_item.Goals as goal

pub returns : goal.returns
returns c = record {
  items = rw c.in_ok-push.ensures.items (map_push tree_of c.args.all.now.items c.args.item);
  form = λ begun one. rw c.in_ok-push.ensures.items (all_push is_of_text c.args.all.now.items c.args.item begun one);
}
