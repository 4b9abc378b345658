-- The records of a sample, as find(1) prints them by '%y %D %i %Z %p\0'.
use Rattle.std.specs.Prelude.{ℕ, zero, suc, ◌+◌, ◌/◌, ◌%◌, ◌==◌, min, List, [], ◌++◌, if◌then◌else◌}
use Rattle.std.specs.Fmt.{decimal}
use Rattle.sample_tree.specs.declared.records.TheConstants.{DIRECTORY, END, FILE, FIRST_DIRECTORY}
use Rattle.sample_tree.specs.declared.records.TheConstants.{FIRST_FILE, IN_DIRECTORY, IN_ROOT}
use Rattle.sample_tree.specs.declared.records.TheConstants.{LABELLED_A, LABELLED_B}
use Rattle.sample_tree.specs.declared.records.TheConstants.{MOST_DIRECTORIES, ROOT, UNLABELLED}

-- the texts of the numbers below n, one behind the other
abbrev pub texts_below : (ℕ → List ℕ) → ℕ → List ℕ
texts_below text zero = []
texts_below text (suc n) = texts_below text n ++ text n

-- a directory /dK with an inode of its own
unfoldable pub directory_text : ℕ → List ℕ
directory_text k =
    DIRECTORY.now ++ decimal (FIRST_DIRECTORY + k) ++ IN_ROOT.now ++ decimal k ++ END.now

-- the label of a file, by its inode: of three inodes one has the one label, one the other and one
-- none
unfoldable pub file_front : ℕ → List ℕ
file_front j =
    if j % 3 == 0 then LABELLED_A.now
    else if j % 3 == 1 then LABELLED_B.now
    else UNLABELLED.now

-- a file /dM/fI in one of a hundred directories; two files that follow each other are names of one
-- inode
unfoldable pub file_text : ℕ → List ℕ
file_text i =
    FILE.now ++ decimal (FIRST_FILE + i / 2) ++ file_front (i / 2)
    ++ decimal (i % MOST_DIRECTORIES) ++ IN_DIRECTORY.now ++ decimal i ++ END.now

-- the root, a directory for each number below n and below a hundred, and a file for each below n
unfoldable pub sample_records : ℕ → List ℕ
sample_records n =
    ROOT.now ++ texts_below directory_text (min n MOST_DIRECTORIES) ++ texts_below file_text n
