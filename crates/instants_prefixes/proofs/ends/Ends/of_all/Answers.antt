use Rattle.std.proofs.Common.{◌+◌, ◌-◌, length, drop, map, sym, ap, ◌∙◌}
use Rattle.std.specs.List.{prefix_len}
use Rattle.std.proofs.lemmas.List.{take_rest, drop-map}
use Rattle.instants_prefixes.specs.Lengths.{is_silent, is_text}
use Rattle.instants_prefixes.proofs.EndLemmas.{prefix_map, texts_of, last_is}
use Rattle.instants_prefixes.proofs.ends.Ends.of_all.Goals as goal

pub returns : goal.returns
returns g c =
    let tree = g.N.Node.tree in
    let nodes = c.args.nodes.now in
    let end = length nodes - c.silent_at_end.result in
    let first = c.silent_at_start-first.ensures.value ∙ prefix_map is_silent tree nodes in
    let last = last_is tree nodes c.silent_at_end.result c.silent_at_end.ensures.value in
    let texts = rw (take_rest nodes end) at c.texts_at_start.ensures.value ∙ prefix_map is_text tree (drop end nodes) ∙ ap (prefix_len is_text) (sym (drop-map tree end nodes)) in
    record {
      ends = record {
        first = first;
        last = last;
        written = ap (λ n. end + n) texts ∙ ap (λ n. n + prefix_len is_text (drop n (map tree nodes))) last;
        texts = texts_of tree nodes c.silent_at_start-first.result end c.texts_beside.result first last c.texts_beside.ensures.prefix c.texts_beside.ensures.back;
      };
    }
