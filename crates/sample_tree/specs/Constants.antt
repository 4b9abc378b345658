-- What the constants of this crate are, in letters and figures.
use Rattle.std.specs.Prelude.{◌≡◌, ◌∷◌, ◌++◌, [], codes}
use Rattle.label_base.specs.Spelling.{byte}
use Rattle.sample_tree.specs.declared.TheConstants.{SAMPLE}
use Rattle.sample_tree.specs.declared.records.TheConstants as records
use Rattle.sample_tree.specs.declared.summary.TheConstants as texts
use Rattle.sample_tree.specs.declared.tool.TheConstants.{OWN_FILE}
use Rattle.sample_tree.specs.declared.words.TheConstants.{COUNT, MOST_FILES}

pub record ConstantsAreStated : Type 0 where
  -- the name of the tool, and the letter that stands for its operand
  pub sample : SAMPLE.now ≡ codes "sample"
  pub count : COUNT ≡ byte "N"
  -- the most files
  pub most_files : MOST_FILES ≡ 1000000
  -- the file of specifications
  pub own_file : OWN_FILE.now ≡ codes "file_contexts"
  pub specs : records.SPECS.now ≡ codes "/ -d system_u:object_r:root_t:s0\n"
      ++ codes "/d[0-9]+ -d system_u:object_r:dir_t:s0\n"
      ++ codes "/d[0-9]+/f[0-9]+ -- system_u:object_r:a_t:s0\n"
      ++ codes "/d[0-9]*[13579]/.* -- system_u:object_r:b_t:s0\n"
  -- the most directories below the root, and the first inodes of directories and of files
  pub most_directories : records.MOST_DIRECTORIES ≡ 100
  pub first_directory : records.FIRST_DIRECTORY ≡ 2
  pub first_file : records.FIRST_FILE ≡ 1000
  -- the parts of records, each of which ends in NUL
  pub root : records.ROOT.now ≡ codes "d 1 1 system_u:object_r:root_t:s0 /" ++ 0 ∷ []
  pub directory : records.DIRECTORY.now ≡ codes "d 1 "
  pub in_root : records.IN_ROOT.now ≡ codes " system_u:object_r:dir_t:s0 /d"
  pub file : records.FILE.now ≡ codes "f 1 "
  pub labelled_a : records.LABELLED_A.now ≡ codes " system_u:object_r:a_t:s0 /d"
  pub labelled_b : records.LABELLED_B.now ≡ codes " system_u:object_r:b_t:s0 /d"
  pub unlabelled : records.UNLABELLED.now ≡ codes " ? /d"
  pub in_directory : records.IN_DIRECTORY.now ≡ codes "/f"
  pub end : records.END.now ≡ 0 ∷ []
  -- the lines of the summary
  pub entries : texts.ENTRIES.now ≡ codes "entries "
  pub relabelled : texts.RELABELLED.now ≡ codes "relabelled "
  pub conflicts : texts.CONFLICTS.now ≡ codes "conflicts "
  pub errors : texts.ERRORS.now ≡ codes "errors "
  pub skipped_again : texts.SKIPPED_AGAIN.now ≡ codes "skipped again "
  pub relabelled_again : texts.RELABELLED_AGAIN.now ≡ codes "relabelled again "
  pub line_end : texts.LINE_END.now ≡ codes "\n"
